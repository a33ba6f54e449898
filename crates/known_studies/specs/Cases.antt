-- The studies with known ends.
use Rattle.std.specs.Prelude.{ℕ, List, [], ◌∷◌, ◌++◌, codes}
use Rattle.protocol.specs.declared.steps.Step.{Step}
use Rattle.protocol.specs.declared.steps.Step.TheVariants.{Load, Store, Acquire, Release, Evict, Move}
use Rattle.protocol.specs.Cells.{line_of, offset_of}
use Rattle.protocol.specs.Rules.{guarded}
use Rattle.races.specs.Log.{empty_log}
use Rattle.report.specs.Lines.{line_end}
use Rattle.mesi_rules.specs.Bus as bus
use Rattle.neat_rules.specs.State as neat_state
use Rattle.neat_rules.specs.Rules as neat_rules
use Rattle.neat_rules.specs.Reading as neat_reading
use Rattle.buffer_rules.specs.Buffered.{Pile, empty, buffer_step, moment_over}
use Rattle.bench.specs.Computed.{state_after}
use Rattle.protocol.specs.declared.steps.Reply.{Reply}
use Rattle.known_studies.specs.Shown.{Case, lines_of}

-- Bus MESI, from a clear on.
abbrev pub mesi_step : bus.State → Step → Reply × bus.State
mesi_step = guarded bus.moment bus.act

abbrev pub under_mesi : List Step → List ℕ
under_mesi ks = lines_of mesi_step bus.start empty_log ks

-- Core 0 hands a byte over to core 1.
abbrev pub handover : List Step
handover = Store 0 10 65 ∷ Release 0 ∷ Acquire 1 ∷ Load 1 10 ∷ []

abbrev pub line : List ℕ → List ℕ
line text = text ++ line_end

-- Address 10 lies in line 1 at offset 2.
abbrev pub address_ten : Case
address_ten = record { found = line_of 10 ∷ offset_of 10 ∷ []; known = 1 ∷ 2 ∷ [] }

-- Address 64 is refused 2; core 8 at address 64 is refused 1.
abbrev pub out_of_range : Case
out_of_range = record { found = under_mesi (Load 0 64 ∷ Load 8 64 ∷ []); known = line (codes "R 0 L -- . 02") ++ line (codes "R - L -- . 01") }

-- Core 1 loads what core 0 has stored: the byte is there, and the load races.
abbrev pub mesi_race : Case
mesi_race = record { found = under_mesi (Store 0 10 65 ∷ Load 1 10 ∷ []); known = line (codes "E 0 S 41 . 00") ++ line (codes "E 1 L 41 ! 00") }

-- After a release and an acquire it does not race; no place is open.
abbrev pub mesi_handover : Case
mesi_handover =
    record {
      found = under_mesi (Store 0 10 65 ∷ Release 0 ∷ Acquire 1 ∷ Load 1 10 ∷ Evict 0 1 ∷ Move 0 ∷ []);
      known = line (codes "E 0 S 41 . 00") ++ (line (codes "E 0 P -- . 00") ++ (line (codes "E 1 A -- . 00") ++ (line (codes "E 1 L 41 . 00") ++ (line (codes "E 0 X -- . 00") ++ line (codes "R - - -- . 04")))));
    }

-- Neat, from a clear on.
abbrev pub neat_step : neat_state.State → Step → Reply × neat_state.State
neat_step = guarded neat_reading.moment neat_rules.act

abbrev pub under_neat : List Step → List ℕ
under_neat ks = lines_of neat_step neat_state.start empty_log ks

-- A store buffer over bus MESI, from a clear on.
abbrev pub buffered_start : Pile bus.State
buffered_start = record { below = bus.start; buffers = λ c. empty }

abbrev pub buffered_mesi_step : Pile bus.State → Step → Reply × Pile bus.State
buffered_mesi_step = buffer_step mesi_step

abbrev pub under_buffered_mesi : List Step → List ℕ
under_buffered_mesi ks = lines_of buffered_mesi_step buffered_start empty_log ks

-- Core 0 stores 41 at address 10, and two moves of place 1 end it.
abbrev pub stored_by_neat : List Step
stored_by_neat = Store 0 10 65 ∷ Move 1 ∷ Move 1 ∷ []

abbrev pub stored_lines : List ℕ
stored_lines = line (codes "W 0 S -- . 00") ++ (line (codes "M - - -- . 00") ++ line (codes "M 0 S 41 . 00"))

abbrev pub neat_store : Case
neat_store = record { found = under_neat stored_by_neat; known = stored_lines }

-- Then core 0 releases, core 1 acquires and loads: 41, unmarked.
abbrev pub neat_handover : Case
neat_handover =
    record {
      found = under_neat (stored_by_neat ++ (Release 0 ∷ Move 8 ∷ Move 1 ∷ Move 8 ∷ Acquire 1 ∷ Move 17 ∷ Move 17 ∷ Load 1 10 ∷ Move 10 ∷ Move 10 ∷ []));
      known =
          stored_lines
          ++ (line (codes "W 0 P -- . 00") ++ (line (codes "M - - -- . 00") ++ (line (codes "M - - -- . 00") ++ (line (codes "M 0 P -- . 00")
          ++ (line (codes "W 1 A -- . 00") ++ (line (codes "M - - -- . 00") ++ (line (codes "M 1 A -- . 00")
          ++ (line (codes "W 1 L -- . 00") ++ (line (codes "M - - -- . 00") ++ line (codes "M 1 L 41 . 00"))))))))));
    }

-- Without them: 00, marked.
abbrev pub neat_race : Case
neat_race =
    record {
      found = under_neat (stored_by_neat ++ (Load 1 10 ∷ Move 10 ∷ Move 10 ∷ []));
      known = stored_lines ++ (line (codes "W 1 L -- . 00") ++ (line (codes "M - - -- . 00") ++ line (codes "M 1 L 00 ! 00")));
    }

-- An evict of the dirty line and a load of it: four moves of place 1, then 41.
abbrev pub neat_evict : Case
neat_evict =
    record {
      found = under_neat (stored_by_neat ++ (Evict 0 1 ∷ Load 0 10 ∷ Move 1 ∷ Move 1 ∷ Move 1 ∷ Move 1 ∷ []));
      known =
          stored_lines
          ++ (line (codes "E 0 X -- . 00") ++ (line (codes "W 0 L -- . 00") ++ (line (codes "M - - -- . 00") ++ (line (codes "M - - -- . 00") ++ (line (codes "M - - -- . 00") ++ line (codes "M 0 L 41 . 00"))))));
    }

-- A release with nothing dirty: place 8 twice.
abbrev pub neat_empty_release : Case
neat_empty_release =
    record { found = under_neat (Release 0 ∷ Move 8 ∷ Move 8 ∷ []); known = line (codes "W 0 P -- . 00") ++ (line (codes "M - - -- . 00") ++ line (codes "M 0 P -- . 00")) }

-- Over MESI, buffered: core 1 does not see the store, core 0 does.
abbrev pub buffered_store : List Step
buffered_store = Store 0 10 65 ∷ Load 1 10 ∷ Load 0 10 ∷ Release 0 ∷ []

abbrev pub buffered_lines : Case
buffered_lines =
    record {
      found = under_buffered_mesi buffered_store;
      known = line (codes "E 0 S 41 . 00") ++ (line (codes "E 1 L 00 ! 00") ++ (line (codes "E 0 L 41 . 00") ++ line (codes "E 0 P -- . 00")));
    }

-- After the release the image has 41.
abbrev pub buffered_image : Case
buffered_image =
    record {
      found = bus.home_byte (state_after buffered_mesi_step buffered_start (Store 0 10 65 ∷ [])).below 10 ∷ bus.home_byte (state_after buffered_mesi_step buffered_start buffered_store).below 10 ∷ [];
      known = 0 ∷ 65 ∷ [];
    }

-- Core 0 stores to the first address of each line, and then releases.
abbrev pub eight_dirty_lines : List Step
eight_dirty_lines =
    Store 0 0 1 ∷ Move 0 ∷ Move 0 ∷ Store 0 8 1 ∷ Move 1 ∷ Move 1 ∷ Store 0 16 1 ∷ Move 2 ∷ Move 2 ∷ Store 0 24 1 ∷ Move 3 ∷ Move 3
    ∷ Store 0 32 1 ∷ Move 4 ∷ Move 4 ∷ Store 0 40 1 ∷ Move 5 ∷ Move 5 ∷ Store 0 48 1 ∷ Move 6 ∷ Move 6 ∷ Store 0 56 1 ∷ Move 7 ∷ Move 7 ∷ Release 0 ∷ []

-- Eight dirty lines and a release: due is 18. A buffer over Neat: reach is 95.
abbrev pub due_and_reach : Case
due_and_reach =
    record {
      found = (neat_reading.moment (state_after neat_step neat_state.start eight_dirty_lines)).due ∷ (moment_over (neat_reading.moment neat_state.start) (λ c. empty)).reach ∷ [];
      known = 18 ∷ 95 ∷ [];
    }

abbrev pub cases : List Case
cases =
    address_ten ∷ out_of_range ∷ mesi_race ∷ mesi_handover ∷ neat_store ∷ neat_handover ∷ neat_race ∷ neat_evict ∷ neat_empty_release ∷ buffered_lines ∷ buffered_image ∷ due_and_reach ∷ []
