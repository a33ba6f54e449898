-- What is written reads back, and what is read writes back.
use Rattle.std.proofs.Common.{◌≡◌, ℕ, ◌≤◌, Bool, true, false, cond, ltb, List, ◌++◌, length, drop, Some, None, Ok, Err, Option, Result, sym, refl, ap, ◌∙◌, subst, arith}
use Rattle.std.specs.List.{flat_map}
use Rattle.std.proofs.lemmas.List.{length-append, take_at}
use Rattle.std.proofs.lemmas.Bool.{cond-false, le-ltb, ltb-false}
use Rattle.protocol.specs.declared.steps.Step.{Step}
use Rattle.bench.specs.declared.faults.Cause.TheVariants.{TooLong, OutputTooShort}
use Rattle.bench.specs.declared.faults.Fault.{Fault}
use Rattle.study_file.specs.declared.codes.Code.{Code}
use Rattle.study_file.specs.declared.plans.Plan.{Plan}
use Rattle.study_file.specs.declared.plans.Failure.{Failure}
use Rattle.study_file.specs.Codes.{code_number, code_named, every_code}
use Rattle.study_file.specs.Plans.{Asked, asked, Answers, most_steps, read_file}
use Rattle.study_file.specs.Files.{step_record, code_record, file_of}
use Rattle.study_file.specs.Writer.{caller_fault, put_file, write_as, write_file}
use Rattle.study_file.specs.Laws.{SoundFile, Exact, WritesBack, ReadsBack}
use Rattle.study_file.proofs.Soundness.{named_has}
use Rattle.study_file.proofs.Filling.{steps_short}
use Rattle.study_file.proofs.Exactness.{code_is, sound_reads, exact}

-- A sound file is written again from what it asks for.
sound_writes : (file : List ℕ) (x : Asked) → SoundFile file x → (buffer : List ℕ) → length file ≤ length buffer → write_file (code_number x.code) x.steps buffer ≡ (Ok (length file), file ++ drop (length file) buffer)
sound_writes file x s buffer room =
    ap (λ (o : Option Code). write_as o x.steps buffer) (code_is x.code)
    ∙ (cond-false (ltb most_steps (length x.steps)) _ _ (le-ltb most_steps (length x.steps) s.few)
    ∙ (ap (λ (f : List ℕ). put_file f buffer) (sym s.bytes) ∙ cond-false (ltb (length buffer) (length file)) _ _ (le-ltb (length buffer) (length file) room)))

pub writes_back : (file : List ℕ) (r : Result Plan Failure) → Answers asked (read_file file) r → WritesBack file r
writes_back file (Ok plan) e = sound_writes file (asked plan) (((exact file).accepted (asked plan)).0 e)
writes_back file (Err y) e = tt

-- What reading promises beside its result.
pub promised : (file : List ℕ) (r : Result Plan Failure) → Answers asked (read_file file) r → record { reads : Answers asked (read_file file) r; exact : Exact file; writes_back : WritesBack file r }
promised file r e = record { reads = e; exact = exact file; writes_back = writes_back file r e }

-- The file of a code and few enough steps is sound.
file_sound : (c : Code) (ks : List Step) → length ks ≤ most_steps → SoundFile (file_of c ks) (record { code = c; steps = ks })
file_sound c ks few = record {
  short = omega (arith, length-append (code_record c) (flat_map step_record ks), steps_short ks);
  few = few;
  bytes = refl;
}

abbrev Back : ℕ → List Step → Result ℕ Fault × List ℕ → Type 0
Back n ks w = ReadsBack n ks w.0 w.1

written_reads : (n : ℕ) (ks : List Step) (b : List ℕ) (o : Option Code) → code_named n ≡ o → Back n ks (write_as o ks b)
written_reads n ks b None e = tt
written_reads n ks b (Some c) e = few (ltb most_steps (length ks)) refl
  where
    put : (t : Bool) → length ks ≤ most_steps → Back n ks (cond t (Err (caller_fault OutputTooShort), b) (Ok (length (file_of c ks)), file_of c ks ++ drop (length (file_of c ks)) b))
    put true l = tt
    put false l = (c, sym (named_has code_number every_code n c e), ap read_file (take_at (file_of c ks) (drop (length (file_of c ks)) b) (length (file_of c ks)) refl) ∙ sound_reads (file_of c ks) (record { code = c; steps = ks }) (file_sound c ks l))

    few : (t : Bool) → ltb most_steps (length ks) ≡ t → Back n ks (cond t (Err (caller_fault TooLong), b) (put_file (file_of c ks) b))
    few true q = tt
    few false q = put (ltb (length b) (length (file_of c ks))) (ltb-false most_steps (length ks) q)

reads_back : (n : ℕ) (ks : List Step) (b b' : List ℕ) (r : Result ℕ Fault) → (r, b') ≡ write_file n ks b → ReadsBack n ks r b'
reads_back n ks b b' r e = subst (Back n ks) (sym e) (written_reads n ks b (code_named n) refl)

-- What writing promises beside its result.
pub kept : (n : ℕ) (ks : List Step) (b b' : List ℕ) (r : Result ℕ Fault) → (r, b') ≡ write_file n ks b → record { writes : (r, b') ≡ write_file n ks b; reads_back : ReadsBack n ks r b' }
kept n ks b b' r e = record { writes = e; reads_back = reads_back n ks b b' r e }
