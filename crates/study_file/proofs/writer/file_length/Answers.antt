-- The records' lengths make up the file's, which fits.
use Rattle.std.proofs.Common.{◌≡◌, ◌+◌, sym, ◌∙◌, arith, rules}
use Rattle.std.specs.List.{sum_by}
use Rattle.std.proofs.iter.runs.Made.{chains}
use Rattle.study_file.specs.Codes.{fields_of}
use Rattle.study_file.specs.Files.{kind_of}
use Rattle.study_file.proofs.Filling.{steps_length, steps_short}
use Rattle.study_file.proofs.writer.file_length.Goals as goal

total : (c : goal.After-sum) → c.sum.result ≡ sum_by (λ k. 4 + fields_of (kind_of k)) c.args.steps.now
total c = search (rules, chains)

pub overflow_add-result : goal.overflow_add-result
overflow_add-result c = let s = total c in let n = steps_length c.args.steps.now in let m = steps_short c.args.steps.now in search rules

pub returns : goal.returns
returns c = let s = total c ∙ sym (steps_length c.args.steps.now) in omega (arith, c.record_length.ensures, s)
