-- Made by the second program from the rules in docs/: studies with what is known of their ends.
use Rattle.std.specs.Prelude.{ℕ, List, [], ◌∷◌}
use Rattle.protocol.specs.declared.steps.Step.TheVariants.{Load, Store, Acquire, Release, Evict, Move}
use Rattle.known_studies.specs.Ends.{Ending, ending}

-- Under Neat, with due after the last step.
abbrev pub neat_dues : List Ending
neat_dues =
    ending (Acquire 1 ∷ Load 4 39 ∷ Move 40 ∷ Store 2 39 18 ∷ Move 40 ∷ Move 22 ∷ Load 4 39 ∷ Evict 4 4 ∷ Load 4 56 ∷ Move 43 ∷ Move 43
    ∷ Move 22 ∷ Store 4 39 19 ∷ Evict 2 7 ∷ Store 2 56 23 ∷ Move 40 ∷ Move 40 ∷ Acquire 4 ∷ Move 44 ∷ Move 40 ∷ Move 44 ∷ Store 4 56 179
    ∷ Move 43 ∷ []) (5 ∷ [])
    ∷ ending (Store 2 1 127 ∷ Load 0 37 ∷ Move 4 ∷ Store 7 5 0 ∷ Move 63 ∷ Move 63 ∷ Store 7 37 65 ∷ Move 67 ∷ Move 67 ∷ Store 7 42 166
    ∷ Move 68 ∷ Move 68 ∷ Acquire 7 ∷ Move 68 ∷ []) (9 ∷ [])
    ∷ ending (Store 5 52 137 ∷ Move 51 ∷ Move 51 ∷ Store 5 58 252 ∷ Move 52 ∷ Move 52 ∷ Store 5 24 114 ∷ Move 48 ∷ Store 0 17 194 ∷ Move 48
    ∷ Store 5 39 218 ∷ Move 49 ∷ Move 49 ∷ Evict 5 4 ∷ []) (4 ∷ [])
    ∷ ending (Load 1 64 ∷ Store 6 22 1 ∷ Move 56 ∷ Move 56 ∷ Evict 6 2 ∷ Store 6 22 119 ∷ Move 56 ∷ Store 1 22 62 ∷ Move 11 ∷ Move 11
    ∷ Store 1 11 151 ∷ []) (5 ∷ [])
    ∷ ending (Acquire 1 ∷ Store 6 44 199 ∷ Move 59 ∷ Move 59 ∷ Store 6 40 109 ∷ Store 6 40 171 ∷ Store 6 44 232 ∷ Evict 6 5 ∷ Load 6 40
    ∷ Move 59 ∷ Move 59 ∷ Move 31 ∷ Move 59 ∷ Move 59 ∷ Acquire 6 ∷ Move 17 ∷ Move 17 ∷ Move 62 ∷ Move 62 ∷ Store 6 40 130 ∷ Move 59
    ∷ Move 59 ∷ Release 6 ∷ []) (4 ∷ [])
    ∷ ending (Acquire 5 ∷ Move 53 ∷ Move 53 ∷ Store 64 65 17 ∷ Load 7 8 ∷ Load 3 8 ∷ Move 64 ∷ Move 64 ∷ Acquire 0 ∷ Move 28 ∷ Load 7 8
    ∷ Move 28 ∷ []) (2 ∷ [])
    ∷ ending (Store 4 12 24 ∷ Move 37 ∷ Move 37 ∷ Release 4 ∷ Move 44 ∷ Move 37 ∷ Move 44 ∷ Acquire 2 ∷ Move 26 ∷ []) (1 ∷ [])
    ∷ ending (Acquire 6 ∷ Move 62 ∷ Move 62 ∷ Acquire 0 ∷ Load 5 25 ∷ Move 8 ∷ Store 3 30 52 ∷ Move 30 ∷ Move 30 ∷ Evict 3 3 ∷ Acquire 3
    ∷ Move 35 ∷ Move 35 ∷ Move 48 ∷ Move 30 ∷ Move 30 ∷ Store 3 29 91 ∷ Move 30 ∷ Move 30 ∷ Evict 3 3 ∷ Store 3 29 119 ∷ []) (6 ∷ [])
    ∷ ending (Store 0 57 220 ∷ Move 7 ∷ Move 7 ∷ Store 0 46 79 ∷ Move 5 ∷ Store 7 15 100 ∷ Move 5 ∷ Evict 0 5 ∷ Load 0 46 ∷ Move 5 ∷ Move 64
    ∷ Acquire 2 ∷ Store 5 16 41 ∷ Move 64 ∷ Store 7 21 84 ∷ Move 65 ∷ Move 65 ∷ Evict 7 2 ∷ Store 7 21 119 ∷ Move 26 ∷ Move 26
    ∷ Store 2 16 92 ∷ Move 20 ∷ Move 20 ∷ []) (9 ∷ [])
    ∷ ending (Store 5 43 115 ∷ Move 50 ∷ Move 50 ∷ Store 3 43 229 ∷ Move 32 ∷ Move 32 ∷ Store 5 43 18 ∷ Release 6 ∷ Move 62 ∷ Move 62
    ∷ Release 3 ∷ Move 35 ∷ Store 5 47 50 ∷ []) (2 ∷ [])
    ∷ ending (Release 4 ∷ Store 0 25 219 ∷ Move 3 ∷ Move 3 ∷ Evict 0 3 ∷ Acquire 0 ∷ Move 8 ∷ Move 8 ∷ Store 3 30 222 ∷ Evict 2 3 ∷ Move 30
    ∷ []) (5 ∷ [])
    ∷ ending (Store 0 34 254 ∷ Move 4 ∷ Move 4 ∷ Evict 0 4 ∷ Evict 0 4 ∷ Evict 6 7 ∷ Store 0 60 165 ∷ Store 6 34 255 ∷ Move 58 ∷ Move 58
    ∷ Evict 6 4 ∷ Acquire 6 ∷ Load 1 39 ∷ []) (10 ∷ [])
    ∷ ending (Evict 7 1 ∷ Evict 1 1 ∷ Evict 1 1 ∷ Store 1 13 220 ∷ Release 7 ∷ Move 71 ∷ Move 71 ∷ Move 10 ∷ Move 10 ∷ Release 1 ∷ Move 17
    ∷ Move 10 ∷ Move 17 ∷ []) (0 ∷ [])
    ∷ ending (Acquire 5 ∷ Store 1 13 245 ∷ Move 10 ∷ Move 10 ∷ Evict 1 1 ∷ Load 1 13 ∷ Store 0 16 219 ∷ Move 2 ∷ Move 2 ∷ Evict 0 2
    ∷ Load 0 16 ∷ Move 2 ∷ Move 53 ∷ Move 53 ∷ Acquire 5 ∷ Move 53 ∷ Move 53 ∷ Acquire 5 ∷ Move 53 ∷ Move 53 ∷ Move 2 ∷ Acquire 5 ∷ []) (8
    ∷ [])
    ∷ ending (Store 2 13 3 ∷ Store 6 15 138 ∷ Move 55 ∷ Move 55 ∷ Store 6 8 9 ∷ Store 6 8 255 ∷ Store 6 15 148 ∷ Store 6 13 111 ∷ Evict 6 1
    ∷ Acquire 6 ∷ Move 62 ∷ Move 62 ∷ Move 55 ∷ Move 19 ∷ Move 19 ∷ Store 2 15 149 ∷ Move 55 ∷ Store 6 13 161 ∷ Acquire 2 ∷ Move 55 ∷ []) (5
    ∷ [])
    ∷ ending (Store 4 35 99 ∷ Move 40 ∷ Move 40 ∷ Store 4 2 48 ∷ Move 36 ∷ Move 36 ∷ Store 4 5 37 ∷ Store 4 4 160 ∷ Store 4 0 214
    ∷ Store 4 54 196 ∷ Move 42 ∷ Move 42 ∷ Store 4 51 193 ∷ Store 4 55 234 ∷ Evict 4 4 ∷ Store 4 35 119 ∷ Store 0 5 98 ∷ Move 0 ∷ []) (5
    ∷ [])
    ∷ ending (Evict 7 1 ∷ Load 1 8 ∷ Store 7 8 243 ∷ Move 64 ∷ Move 64 ∷ Store 7 8 66 ∷ Evict 7 1 ∷ Store 7 8 119 ∷ Move 10 ∷ Move 64
    ∷ Move 10 ∷ Move 64 ∷ Load 1 8 ∷ Store 1 8 148 ∷ Evict 1 1 ∷ Load 1 8 ∷ Move 10 ∷ Store 7 8 17 ∷ Move 64 ∷ Move 64 ∷ Evict 7 1
    ∷ Release 1 ∷ Release 7 ∷ []) (7 ∷ [])
    ∷ ending (Move 80 ∷ Store 3 27 49 ∷ Move 30 ∷ Move 30 ∷ Store 3 58 166 ∷ Move 34 ∷ Move 34 ∷ Store 3 60 204 ∷ Store 3 27 35
    ∷ Store 3 26 141 ∷ Store 3 58 3 ∷ Store 3 60 101 ∷ Store 3 27 47 ∷ Store 3 26 1 ∷ Release 3 ∷ Move 30 ∷ Move 34 ∷ Move 35 ∷ Move 35
    ∷ Store 3 26 247 ∷ Store 3 60 136 ∷ Store 3 26 187 ∷ Acquire 3 ∷ []) (6 ∷ [])
    ∷ ending (Load 3 62 ∷ Move 34 ∷ Move 34 ∷ Store 3 19 186 ∷ Move 29 ∷ Move 29 ∷ Store 3 61 186 ∷ Store 3 19 111 ∷ Release 3 ∷ Move 29
    ∷ Store 1 57 180 ∷ Move 16 ∷ Move 16 ∷ Store 1 17 103 ∷ Move 11 ∷ Move 11 ∷ Store 1 19 94 ∷ Store 1 22 11 ∷ Store 1 62 11
    ∷ Store 1 61 165 ∷ Store 1 57 17 ∷ Evict 1 7 ∷ Store 1 57 119 ∷ []) (8 ∷ [])
    ∷ ending (Release 5 ∷ Move 53 ∷ Move 53 ∷ Store 5 30 99 ∷ Move 48 ∷ Move 48 ∷ Store 5 3 105 ∷ Move 45 ∷ Move 45 ∷ Release 5 ∷ Acquire 4
    ∷ Move 44 ∷ Move 44 ∷ Release 4 ∷ Move 44 ∷ []) (7 ∷ [])
    ∷ ending (Store 0 6 245 ∷ Move 0 ∷ Move 0 ∷ Evict 0 0 ∷ Store 0 6 119 ∷ Acquire 6 ∷ Move 62 ∷ Move 62 ∷ Store 6 2 109 ∷ Move 54
    ∷ Move 54 ∷ []) (4 ∷ [])
    ∷ ending (Load 2 29 ∷ Acquire 6 ∷ Move 21 ∷ Store 5 29 62 ∷ Move 48 ∷ Move 48 ∷ Move 62 ∷ Move 62 ∷ Store 6 56 217 ∷ Move 61 ∷ Move 61
    ∷ Evict 6 7 ∷ Store 6 56 119 ∷ Store 5 28 107 ∷ Evict 5 7 ∷ Store 5 28 231 ∷ Store 5 28 45 ∷ Evict 5 3 ∷ Acquire 5 ∷ Move 21 ∷ Acquire 2
    ∷ Move 48 ∷ Move 61 ∷ []) (8 ∷ [])
    ∷ ending (Evict 1 4 ∷ Store 7 38 181 ∷ Store 1 38 33 ∷ Move 13 ∷ Move 13 ∷ Move 67 ∷ Move 67 ∷ Store 7 34 3 ∷ Store 7 38 99
    ∷ Store 7 34 113 ∷ Evict 7 4 ∷ Store 7 34 119 ∷ Acquire 1 ∷ Move 17 ∷ []) (6 ∷ [])
    ∷ ending (Store 4 27 21 ∷ Move 39 ∷ Move 39 ∷ Evict 4 3 ∷ Acquire 4 ∷ Move 44 ∷ Move 44 ∷ Store 3 31 221 ∷ Acquire 7 ∷ Move 71 ∷ Move 39
    ∷ Move 71 ∷ Release 7 ∷ Move 71 ∷ []) (4 ∷ [])
    ∷ []

-- Under bus MESI, with each copy after the last step, line by line and core by core: 0 is I, 1 S, 2 E, 3 M.
abbrev pub mesi_copies : List Ending
mesi_copies =
    ending (Store 2 16 37 ∷ Evict 2 3 ∷ Evict 4 3 ∷ Load 4 23 ∷ Store 2 29 93 ∷ Evict 2 3 ∷ Acquire 2 ∷ Store 2 27 203 ∷ Load 2 23
    ∷ Evict 2 255 ∷ Load 4 28 ∷ Load 4 23 ∷ []) (0 ∷ 0 ∷ 0 ∷ 0 ∷ 0 ∷ 0 ∷ 0 ∷ 0 ∷ 0 ∷ 0 ∷ 0 ∷ 0 ∷ 0 ∷ 0 ∷ 0 ∷ 0 ∷ 0 ∷ 0 ∷ 1 ∷ 0 ∷ 1 ∷ 0 ∷ 0
    ∷ 0 ∷ 0 ∷ 0 ∷ 1 ∷ 0 ∷ 1 ∷ 0 ∷ 0 ∷ 0 ∷ 0 ∷ 0 ∷ 0 ∷ 0 ∷ 0 ∷ 0 ∷ 0 ∷ 0 ∷ 0 ∷ 0 ∷ 0 ∷ 0 ∷ 0 ∷ 0 ∷ 0 ∷ 0 ∷ 0 ∷ 0 ∷ 0 ∷ 0 ∷ 0 ∷ 0 ∷ 0 ∷ 0 ∷ 0
    ∷ 0 ∷ 0 ∷ 0 ∷ 0 ∷ 0 ∷ 0 ∷ 0 ∷ [])
    ∷ ending (Release 4 ∷ Load 5 6 ∷ Acquire 2 ∷ Store 4 47 83 ∷ Store 4 29 147 ∷ Store 4 56 233 ∷ Store 4 47 2 ∷ Store 4 13 253
    ∷ Store 4 38 174 ∷ Store 4 49 231 ∷ Store 4 20 145 ∷ Evict 4 5 ∷ Load 4 47 ∷ Acquire 4 ∷ Store 5 6 36 ∷ []) (0 ∷ 0 ∷ 0 ∷ 0 ∷ 0 ∷ 3 ∷ 0
    ∷ 0 ∷ 0 ∷ 0 ∷ 0 ∷ 0 ∷ 3 ∷ 0 ∷ 0 ∷ 0 ∷ 0 ∷ 0 ∷ 0 ∷ 0 ∷ 3 ∷ 0 ∷ 0 ∷ 0 ∷ 0 ∷ 0 ∷ 0 ∷ 0 ∷ 3 ∷ 0 ∷ 0 ∷ 0 ∷ 0 ∷ 0 ∷ 0 ∷ 0 ∷ 3 ∷ 0 ∷ 0 ∷ 0 ∷ 0
    ∷ 0 ∷ 0 ∷ 0 ∷ 2 ∷ 0 ∷ 0 ∷ 0 ∷ 0 ∷ 0 ∷ 0 ∷ 0 ∷ 3 ∷ 0 ∷ 0 ∷ 0 ∷ 0 ∷ 0 ∷ 0 ∷ 0 ∷ 3 ∷ 0 ∷ 0 ∷ 0 ∷ [])
    ∷ ending (Store 0 19 111 ∷ Store 0 17 212 ∷ Store 0 21 40 ∷ Store 0 16 222 ∷ Store 0 13 145 ∷ Store 0 8 4 ∷ Store 0 15 170 ∷ Load 5 60
    ∷ Evict 0 7 ∷ Release 0 ∷ Acquire 5 ∷ Store 5 21 128 ∷ Store 5 16 137 ∷ Store 5 13 254 ∷ []) (0 ∷ 0 ∷ 0 ∷ 0 ∷ 0 ∷ 0 ∷ 0 ∷ 0 ∷ 0 ∷ 0 ∷ 0
    ∷ 0 ∷ 0 ∷ 3 ∷ 0 ∷ 0 ∷ 0 ∷ 0 ∷ 0 ∷ 0 ∷ 0 ∷ 3 ∷ 0 ∷ 0 ∷ 0 ∷ 0 ∷ 0 ∷ 0 ∷ 0 ∷ 0 ∷ 0 ∷ 0 ∷ 0 ∷ 0 ∷ 0 ∷ 0 ∷ 0 ∷ 0 ∷ 0 ∷ 0 ∷ 0 ∷ 0 ∷ 0 ∷ 0 ∷ 0
    ∷ 0 ∷ 0 ∷ 0 ∷ 0 ∷ 0 ∷ 0 ∷ 0 ∷ 0 ∷ 0 ∷ 0 ∷ 0 ∷ 0 ∷ 0 ∷ 0 ∷ 0 ∷ 0 ∷ 2 ∷ 0 ∷ 0 ∷ [])
    ∷ ending (Evict 7 3 ∷ Store 5 40 207 ∷ Store 7 27 123 ∷ Store 7 27 241 ∷ Store 5 27 233 ∷ Evict 7 3 ∷ Load 7 40 ∷ Store 5 41 196
    ∷ Load 7 40 ∷ Evict 7 5 ∷ Acquire 5 ∷ Acquire 7 ∷ Acquire 7 ∷ Release 7 ∷ Release 7 ∷ Load 7 31 ∷ []) (0 ∷ 0 ∷ 0 ∷ 0 ∷ 0 ∷ 0 ∷ 0 ∷ 0 ∷ 0
    ∷ 0 ∷ 0 ∷ 0 ∷ 0 ∷ 0 ∷ 0 ∷ 0 ∷ 0 ∷ 0 ∷ 0 ∷ 0 ∷ 0 ∷ 0 ∷ 0 ∷ 0 ∷ 0 ∷ 0 ∷ 0 ∷ 0 ∷ 0 ∷ 1 ∷ 0 ∷ 1 ∷ 0 ∷ 0 ∷ 0 ∷ 0 ∷ 0 ∷ 0 ∷ 0 ∷ 0 ∷ 0 ∷ 0 ∷ 0
    ∷ 0 ∷ 0 ∷ 1 ∷ 0 ∷ 0 ∷ 0 ∷ 0 ∷ 0 ∷ 0 ∷ 0 ∷ 0 ∷ 0 ∷ 0 ∷ 0 ∷ 0 ∷ 0 ∷ 0 ∷ 0 ∷ 0 ∷ 0 ∷ 0 ∷ [])
    ∷ ending (Store 0 58 76 ∷ Load 6 58 ∷ Evict 7 0 ∷ Release 0 ∷ Store 1 3 77 ∷ Load 3 58 ∷ Release 4 ∷ Acquire 1 ∷ Release 4 ∷ Release 7
    ∷ Acquire 5 ∷ []) (0 ∷ 3 ∷ 0 ∷ 0 ∷ 0 ∷ 0 ∷ 0 ∷ 0 ∷ 0 ∷ 0 ∷ 0 ∷ 0 ∷ 0 ∷ 0 ∷ 0 ∷ 0 ∷ 0 ∷ 0 ∷ 0 ∷ 0 ∷ 0 ∷ 0 ∷ 0 ∷ 0 ∷ 0 ∷ 0 ∷ 0 ∷ 0 ∷ 0 ∷ 0
    ∷ 0 ∷ 0 ∷ 0 ∷ 0 ∷ 0 ∷ 0 ∷ 0 ∷ 0 ∷ 0 ∷ 0 ∷ 0 ∷ 0 ∷ 0 ∷ 0 ∷ 0 ∷ 0 ∷ 0 ∷ 0 ∷ 0 ∷ 0 ∷ 0 ∷ 0 ∷ 0 ∷ 0 ∷ 0 ∷ 0 ∷ 1 ∷ 0 ∷ 0 ∷ 1 ∷ 0 ∷ 0 ∷ 1 ∷ 0
    ∷ [])
    ∷ ending (Load 5 43 ∷ Load 5 43 ∷ Store 4 43 29 ∷ Store 4 12 179 ∷ Acquire 4 ∷ Acquire 4 ∷ Store 4 18 65 ∷ Load 4 0 ∷ Store 4 22 21
    ∷ Store 4 43 148 ∷ Release 4 ∷ Release 5 ∷ Store 4 11 30 ∷ Release 4 ∷ Load 5 11 ∷ []) (0 ∷ 0 ∷ 0 ∷ 0 ∷ 2 ∷ 0 ∷ 0 ∷ 0 ∷ 0 ∷ 0 ∷ 0 ∷ 0
    ∷ 1 ∷ 1 ∷ 0 ∷ 0 ∷ 0 ∷ 0 ∷ 0 ∷ 0 ∷ 3 ∷ 0 ∷ 0 ∷ 0 ∷ 0 ∷ 0 ∷ 0 ∷ 0 ∷ 0 ∷ 0 ∷ 0 ∷ 0 ∷ 0 ∷ 0 ∷ 0 ∷ 0 ∷ 0 ∷ 0 ∷ 0 ∷ 0 ∷ 0 ∷ 0 ∷ 0 ∷ 0 ∷ 3 ∷ 0
    ∷ 0 ∷ 0 ∷ 0 ∷ 0 ∷ 0 ∷ 0 ∷ 0 ∷ 0 ∷ 0 ∷ 0 ∷ 0 ∷ 0 ∷ 0 ∷ 0 ∷ 0 ∷ 0 ∷ 0 ∷ 0 ∷ [])
    ∷ ending (Store 5 1 251 ∷ Store 5 29 151 ∷ Store 4 11 15 ∷ Load 1 29 ∷ Acquire 4 ∷ Load 6 41 ∷ Release 5 ∷ Release 5 ∷ Evict 5 63
    ∷ Store 5 61 174 ∷ []) (0 ∷ 0 ∷ 0 ∷ 0 ∷ 0 ∷ 3 ∷ 0 ∷ 0 ∷ 0 ∷ 0 ∷ 0 ∷ 0 ∷ 3 ∷ 0 ∷ 0 ∷ 0 ∷ 0 ∷ 0 ∷ 0 ∷ 0 ∷ 0 ∷ 0 ∷ 0 ∷ 0 ∷ 0 ∷ 1 ∷ 0 ∷ 0
    ∷ 0 ∷ 1 ∷ 0 ∷ 0 ∷ 0 ∷ 0 ∷ 0 ∷ 0 ∷ 0 ∷ 0 ∷ 0 ∷ 0 ∷ 0 ∷ 0 ∷ 0 ∷ 0 ∷ 0 ∷ 0 ∷ 2 ∷ 0 ∷ 0 ∷ 0 ∷ 0 ∷ 0 ∷ 0 ∷ 0 ∷ 0 ∷ 0 ∷ 0 ∷ 0 ∷ 0 ∷ 0 ∷ 0 ∷ 3
    ∷ 0 ∷ 0 ∷ [])
    ∷ ending (Load 3 51 ∷ Load 3 43 ∷ Store 3 30 70 ∷ Acquire 3 ∷ Evict 5 6 ∷ Acquire 5 ∷ Release 2 ∷ Evict 5 4 ∷ Load 2 43 ∷ Store 3 57 182
    ∷ Evict 2 6 ∷ Release 3 ∷ Acquire 5 ∷ Load 3 63 ∷ Store 3 30 71 ∷ []) (0 ∷ 0 ∷ 0 ∷ 0 ∷ 0 ∷ 0 ∷ 0 ∷ 0 ∷ 0 ∷ 0 ∷ 0 ∷ 0 ∷ 0 ∷ 0 ∷ 0 ∷ 0 ∷ 0
    ∷ 0 ∷ 0 ∷ 0 ∷ 0 ∷ 0 ∷ 0 ∷ 0 ∷ 0 ∷ 0 ∷ 0 ∷ 3 ∷ 0 ∷ 0 ∷ 0 ∷ 0 ∷ 0 ∷ 0 ∷ 0 ∷ 0 ∷ 0 ∷ 0 ∷ 0 ∷ 0 ∷ 0 ∷ 0 ∷ 1 ∷ 1 ∷ 0 ∷ 0 ∷ 0 ∷ 0 ∷ 0 ∷ 0 ∷ 0
    ∷ 2 ∷ 0 ∷ 0 ∷ 0 ∷ 0 ∷ 0 ∷ 0 ∷ 0 ∷ 3 ∷ 0 ∷ 0 ∷ 0 ∷ 0 ∷ [])
    ∷ ending (Evict 2 0 ∷ Evict 2 7 ∷ Store 7 5 152 ∷ Store 2 56 48 ∷ Store 2 56 125 ∷ Store 1 5 183 ∷ []) (0 ∷ 3 ∷ 0 ∷ 0 ∷ 0 ∷ 0 ∷ 0 ∷ 0
    ∷ 0 ∷ 0 ∷ 0 ∷ 0 ∷ 0 ∷ 0 ∷ 0 ∷ 0 ∷ 0 ∷ 0 ∷ 0 ∷ 0 ∷ 0 ∷ 0 ∷ 0 ∷ 0 ∷ 0 ∷ 0 ∷ 0 ∷ 0 ∷ 0 ∷ 0 ∷ 0 ∷ 0 ∷ 0 ∷ 0 ∷ 0 ∷ 0 ∷ 0 ∷ 0 ∷ 0 ∷ 0 ∷ 0 ∷ 0
    ∷ 0 ∷ 0 ∷ 0 ∷ 0 ∷ 0 ∷ 0 ∷ 0 ∷ 0 ∷ 0 ∷ 0 ∷ 0 ∷ 0 ∷ 0 ∷ 0 ∷ 0 ∷ 0 ∷ 3 ∷ 0 ∷ 0 ∷ 0 ∷ 0 ∷ 0 ∷ [])
    ∷ ending (Load 7 45 ∷ Evict 7 0 ∷ Release 7 ∷ Load 1 1 ∷ Load 7 45 ∷ Evict 1 5 ∷ Load 1 1 ∷ Release 1 ∷ Store 1 45 13 ∷ Release 7
    ∷ Load 7 45 ∷ Acquire 1 ∷ Release 7 ∷ Evict 1 5 ∷ Load 1 1 ∷ []) (0 ∷ 2 ∷ 0 ∷ 0 ∷ 0 ∷ 0 ∷ 0 ∷ 0 ∷ 0 ∷ 0 ∷ 0 ∷ 0 ∷ 0 ∷ 0 ∷ 0 ∷ 0 ∷ 0 ∷ 0
    ∷ 0 ∷ 0 ∷ 0 ∷ 0 ∷ 0 ∷ 0 ∷ 0 ∷ 0 ∷ 0 ∷ 0 ∷ 0 ∷ 0 ∷ 0 ∷ 0 ∷ 0 ∷ 0 ∷ 0 ∷ 0 ∷ 0 ∷ 0 ∷ 0 ∷ 0 ∷ 0 ∷ 0 ∷ 0 ∷ 0 ∷ 0 ∷ 0 ∷ 0 ∷ 1 ∷ 0 ∷ 0 ∷ 0 ∷ 0
    ∷ 0 ∷ 0 ∷ 0 ∷ 0 ∷ 0 ∷ 0 ∷ 0 ∷ 0 ∷ 0 ∷ 0 ∷ 0 ∷ 0 ∷ [])
    ∷ ending (Acquire 6 ∷ Load 1 45 ∷ Store 0 45 231 ∷ Evict 0 5 ∷ Load 0 45 ∷ Acquire 2 ∷ Release 0 ∷ Acquire 1 ∷ Acquire 1 ∷ Load 1 45
    ∷ Release 0 ∷ Acquire 6 ∷ Load 6 45 ∷ Release 6 ∷ Acquire 1 ∷ Release 6 ∷ []) (0 ∷ 0 ∷ 0 ∷ 0 ∷ 0 ∷ 0 ∷ 0 ∷ 0 ∷ 0 ∷ 0 ∷ 0 ∷ 0 ∷ 0 ∷ 0 ∷ 0
    ∷ 0 ∷ 0 ∷ 0 ∷ 0 ∷ 0 ∷ 0 ∷ 0 ∷ 0 ∷ 0 ∷ 0 ∷ 0 ∷ 0 ∷ 0 ∷ 0 ∷ 0 ∷ 0 ∷ 0 ∷ 0 ∷ 0 ∷ 0 ∷ 0 ∷ 0 ∷ 0 ∷ 0 ∷ 0 ∷ 1 ∷ 1 ∷ 0 ∷ 0 ∷ 0 ∷ 0 ∷ 1 ∷ 0 ∷ 0
    ∷ 0 ∷ 0 ∷ 0 ∷ 0 ∷ 0 ∷ 0 ∷ 0 ∷ 0 ∷ 0 ∷ 0 ∷ 0 ∷ 0 ∷ 0 ∷ 0 ∷ 0 ∷ [])
    ∷ ending (Load 3 14 ∷ Store 3 54 213 ∷ Release 7 ∷ Load 7 14 ∷ Load 3 34 ∷ Acquire 3 ∷ Load 7 57 ∷ Store 3 24 123 ∷ []) (0 ∷ 0 ∷ 0 ∷ 0
    ∷ 0 ∷ 0 ∷ 0 ∷ 0 ∷ 0 ∷ 0 ∷ 0 ∷ 1 ∷ 0 ∷ 0 ∷ 0 ∷ 1 ∷ 0 ∷ 0 ∷ 0 ∷ 0 ∷ 0 ∷ 0 ∷ 0 ∷ 0 ∷ 0 ∷ 0 ∷ 0 ∷ 3 ∷ 0 ∷ 0 ∷ 0 ∷ 0 ∷ 0 ∷ 0 ∷ 0 ∷ 2 ∷ 0 ∷ 0
    ∷ 0 ∷ 0 ∷ 0 ∷ 0 ∷ 0 ∷ 0 ∷ 0 ∷ 0 ∷ 0 ∷ 0 ∷ 0 ∷ 0 ∷ 0 ∷ 3 ∷ 0 ∷ 0 ∷ 0 ∷ 0 ∷ 0 ∷ 0 ∷ 0 ∷ 0 ∷ 0 ∷ 0 ∷ 0 ∷ 2 ∷ [])
    ∷ ending (Load 2 54 ∷ Move 73 ∷ Release 6 ∷ Store 6 54 89 ∷ Store 0 52 109 ∷ Evict 6 1 ∷ Store 6 12 84 ∷ Store 0 52 40 ∷ Load 0 52
    ∷ Store 0 52 246 ∷ Store 0 52 100 ∷ Load 0 11 ∷ Acquire 0 ∷ Release 6 ∷ Acquire 0 ∷ Acquire 0 ∷ []) (0 ∷ 0 ∷ 0 ∷ 0 ∷ 0 ∷ 0 ∷ 0 ∷ 0 ∷ 1
    ∷ 0 ∷ 0 ∷ 0 ∷ 0 ∷ 0 ∷ 1 ∷ 0 ∷ 0 ∷ 0 ∷ 0 ∷ 0 ∷ 0 ∷ 0 ∷ 0 ∷ 0 ∷ 0 ∷ 0 ∷ 0 ∷ 0 ∷ 0 ∷ 0 ∷ 0 ∷ 0 ∷ 0 ∷ 0 ∷ 0 ∷ 0 ∷ 0 ∷ 0 ∷ 0 ∷ 0 ∷ 0 ∷ 0 ∷ 0
    ∷ 0 ∷ 0 ∷ 0 ∷ 0 ∷ 0 ∷ 3 ∷ 0 ∷ 0 ∷ 0 ∷ 0 ∷ 0 ∷ 0 ∷ 0 ∷ 0 ∷ 0 ∷ 0 ∷ 0 ∷ 0 ∷ 0 ∷ 0 ∷ 0 ∷ [])
    ∷ ending (Store 0 49 172 ∷ Acquire 4 ∷ Load 4 49 ∷ Load 2 39 ∷ Store 4 13 146 ∷ Store 4 27 158 ∷ Store 4 26 128 ∷ Store 4 24 19
    ∷ Store 4 25 51 ∷ Store 4 18 61 ∷ Store 4 16 233 ∷ []) (0 ∷ 0 ∷ 0 ∷ 0 ∷ 0 ∷ 0 ∷ 0 ∷ 0 ∷ 0 ∷ 0 ∷ 0 ∷ 0 ∷ 3 ∷ 0 ∷ 0 ∷ 0 ∷ 0 ∷ 0 ∷ 0 ∷ 0
    ∷ 3 ∷ 0 ∷ 0 ∷ 0 ∷ 0 ∷ 0 ∷ 0 ∷ 0 ∷ 3 ∷ 0 ∷ 0 ∷ 0 ∷ 0 ∷ 0 ∷ 2 ∷ 0 ∷ 0 ∷ 0 ∷ 0 ∷ 0 ∷ 0 ∷ 0 ∷ 0 ∷ 0 ∷ 0 ∷ 0 ∷ 0 ∷ 0 ∷ 1 ∷ 0 ∷ 0 ∷ 0 ∷ 1 ∷ 0
    ∷ 0 ∷ 0 ∷ 0 ∷ 0 ∷ 0 ∷ 0 ∷ 0 ∷ 0 ∷ 0 ∷ 0 ∷ [])
    ∷ ending (Store 1 21 58 ∷ Store 1 21 133 ∷ Store 1 22 136 ∷ Evict 1 2 ∷ Acquire 1 ∷ Store 1 21 205 ∷ Store 1 22 178 ∷ Store 1 21 84
    ∷ Acquire 1 ∷ Store 1 21 18 ∷ Store 1 22 235 ∷ Release 1 ∷ []) (0 ∷ 0 ∷ 0 ∷ 0 ∷ 0 ∷ 0 ∷ 0 ∷ 0 ∷ 0 ∷ 0 ∷ 0 ∷ 0 ∷ 0 ∷ 0 ∷ 0 ∷ 0 ∷ 0 ∷ 3
    ∷ 0 ∷ 0 ∷ 0 ∷ 0 ∷ 0 ∷ 0 ∷ 0 ∷ 0 ∷ 0 ∷ 0 ∷ 0 ∷ 0 ∷ 0 ∷ 0 ∷ 0 ∷ 0 ∷ 0 ∷ 0 ∷ 0 ∷ 0 ∷ 0 ∷ 0 ∷ 0 ∷ 0 ∷ 0 ∷ 0 ∷ 0 ∷ 0 ∷ 0 ∷ 0 ∷ 0 ∷ 0 ∷ 0 ∷ 0
    ∷ 0 ∷ 0 ∷ 0 ∷ 0 ∷ 0 ∷ 0 ∷ 0 ∷ 0 ∷ 0 ∷ 0 ∷ 0 ∷ 0 ∷ [])
    ∷ ending (Load 2 40 ∷ Load 2 40 ∷ Evict 2 5 ∷ Evict 5 5 ∷ Acquire 5 ∷ Release 5 ∷ Evict 2 5 ∷ Store 5 40 17 ∷ Evict 5 5 ∷ Store 2 40 77
    ∷ Release 2 ∷ Acquire 5 ∷ Load 5 40 ∷ Evict 5 5 ∷ Acquire 5 ∷ []) (0 ∷ 0 ∷ 0 ∷ 0 ∷ 0 ∷ 0 ∷ 0 ∷ 0 ∷ 0 ∷ 0 ∷ 0 ∷ 0 ∷ 0 ∷ 0 ∷ 0 ∷ 0 ∷ 0 ∷ 0
    ∷ 0 ∷ 0 ∷ 0 ∷ 0 ∷ 0 ∷ 0 ∷ 0 ∷ 0 ∷ 0 ∷ 0 ∷ 0 ∷ 0 ∷ 0 ∷ 0 ∷ 0 ∷ 0 ∷ 0 ∷ 0 ∷ 0 ∷ 0 ∷ 0 ∷ 0 ∷ 0 ∷ 0 ∷ 1 ∷ 0 ∷ 0 ∷ 0 ∷ 0 ∷ 0 ∷ 0 ∷ 0 ∷ 0 ∷ 0
    ∷ 0 ∷ 0 ∷ 0 ∷ 0 ∷ 0 ∷ 0 ∷ 0 ∷ 0 ∷ 0 ∷ 0 ∷ 0 ∷ 0 ∷ [])
    ∷ ending (Load 6 4 ∷ Store 0 58 50 ∷ Release 6 ∷ Load 6 63 ∷ Load 2 63 ∷ Release 0 ∷ Release 0 ∷ Acquire 0 ∷ Store 0 50 72 ∷ Release 0
    ∷ Acquire 6 ∷ Release 6 ∷ Acquire 2 ∷ Load 2 50 ∷ Load 2 4 ∷ Evict 6 6 ∷ []) (0 ∷ 0 ∷ 1 ∷ 0 ∷ 0 ∷ 0 ∷ 1 ∷ 0 ∷ 0 ∷ 0 ∷ 0 ∷ 0 ∷ 0 ∷ 0 ∷ 0
    ∷ 0 ∷ 0 ∷ 0 ∷ 0 ∷ 0 ∷ 0 ∷ 0 ∷ 0 ∷ 0 ∷ 0 ∷ 0 ∷ 0 ∷ 0 ∷ 0 ∷ 0 ∷ 0 ∷ 0 ∷ 0 ∷ 0 ∷ 0 ∷ 0 ∷ 0 ∷ 0 ∷ 0 ∷ 0 ∷ 0 ∷ 0 ∷ 0 ∷ 0 ∷ 0 ∷ 0 ∷ 0 ∷ 0 ∷ 1
    ∷ 0 ∷ 1 ∷ 0 ∷ 0 ∷ 0 ∷ 0 ∷ 0 ∷ 1 ∷ 0 ∷ 1 ∷ 0 ∷ 0 ∷ 0 ∷ 1 ∷ 0 ∷ [])
    ∷ ending (Store 2 9 225 ∷ Load 1 10 ∷ Store 2 35 140 ∷ Store 1 45 67 ∷ Release 2 ∷ Load 2 18 ∷ Store 1 25 168 ∷ Store 1 25 133
    ∷ Load 1 10 ∷ Store 2 25 46 ∷ Load 2 53 ∷ Store 1 63 178 ∷ Load 2 18 ∷ Acquire 2 ∷ Load 1 7 ∷ Release 2 ∷ []) (0 ∷ 2 ∷ 0 ∷ 0 ∷ 0 ∷ 0 ∷ 0
    ∷ 0 ∷ 0 ∷ 1 ∷ 1 ∷ 0 ∷ 0 ∷ 0 ∷ 0 ∷ 0 ∷ 0 ∷ 0 ∷ 2 ∷ 0 ∷ 0 ∷ 0 ∷ 0 ∷ 0 ∷ 0 ∷ 0 ∷ 3 ∷ 0 ∷ 0 ∷ 0 ∷ 0 ∷ 0 ∷ 0 ∷ 0 ∷ 3 ∷ 0 ∷ 0 ∷ 0 ∷ 0 ∷ 0 ∷ 0
    ∷ 3 ∷ 0 ∷ 0 ∷ 0 ∷ 0 ∷ 0 ∷ 0 ∷ 0 ∷ 0 ∷ 2 ∷ 0 ∷ 0 ∷ 0 ∷ 0 ∷ 0 ∷ 0 ∷ 3 ∷ 0 ∷ 0 ∷ 0 ∷ 0 ∷ 0 ∷ 0 ∷ [])
    ∷ ending (Store 3 36 150 ∷ Load 3 32 ∷ Evict 9 125 ∷ Store 3 36 250 ∷ Release 4 ∷ Evict 4 8 ∷ Store 3 39 241 ∷ Load 4 32 ∷ Acquire 3
    ∷ Release 3 ∷ Release 4 ∷ Acquire 3 ∷ Acquire 4 ∷ []) (0 ∷ 0 ∷ 0 ∷ 0 ∷ 0 ∷ 0 ∷ 0 ∷ 0 ∷ 0 ∷ 0 ∷ 0 ∷ 0 ∷ 0 ∷ 0 ∷ 0 ∷ 0 ∷ 0 ∷ 0 ∷ 0 ∷ 0 ∷ 0
    ∷ 0 ∷ 0 ∷ 0 ∷ 0 ∷ 0 ∷ 0 ∷ 0 ∷ 0 ∷ 0 ∷ 0 ∷ 0 ∷ 0 ∷ 0 ∷ 0 ∷ 1 ∷ 1 ∷ 0 ∷ 0 ∷ 0 ∷ 0 ∷ 0 ∷ 0 ∷ 0 ∷ 0 ∷ 0 ∷ 0 ∷ 0 ∷ 0 ∷ 0 ∷ 0 ∷ 0 ∷ 0 ∷ 0 ∷ 0
    ∷ 0 ∷ 0 ∷ 0 ∷ 0 ∷ 0 ∷ 0 ∷ 0 ∷ 0 ∷ 0 ∷ [])
    ∷ ending (Release 2 ∷ Evict 0 1 ∷ Release 0 ∷ Release 0 ∷ Load 0 28 ∷ Load 0 53 ∷ Acquire 2 ∷ Store 0 11 127 ∷ Acquire 0 ∷ Load 0 9
    ∷ Store 0 53 241 ∷ Load 0 9 ∷ []) (0 ∷ 0 ∷ 0 ∷ 0 ∷ 0 ∷ 0 ∷ 0 ∷ 0 ∷ 3 ∷ 0 ∷ 0 ∷ 0 ∷ 0 ∷ 0 ∷ 0 ∷ 0 ∷ 0 ∷ 0 ∷ 0 ∷ 0 ∷ 0 ∷ 0 ∷ 0 ∷ 0 ∷ 2 ∷ 0
    ∷ 0 ∷ 0 ∷ 0 ∷ 0 ∷ 0 ∷ 0 ∷ 0 ∷ 0 ∷ 0 ∷ 0 ∷ 0 ∷ 0 ∷ 0 ∷ 0 ∷ 0 ∷ 0 ∷ 0 ∷ 0 ∷ 0 ∷ 0 ∷ 0 ∷ 0 ∷ 3 ∷ 0 ∷ 0 ∷ 0 ∷ 0 ∷ 0 ∷ 0 ∷ 0 ∷ 0 ∷ 0 ∷ 0 ∷ 0
    ∷ 0 ∷ 0 ∷ 0 ∷ 0 ∷ [])
    ∷ ending (Acquire 1 ∷ Store 7 8 66 ∷ Load 5 51 ∷ Load 5 51 ∷ Store 5 50 153 ∷ Store 7 5 229 ∷ Acquire 5 ∷ Evict 5 0 ∷ Load 1 54
    ∷ Load 7 13 ∷ Load 5 51 ∷ Store 6 10 175 ∷ Release 7 ∷ Evict 5 1 ∷ []) (0 ∷ 0 ∷ 0 ∷ 0 ∷ 0 ∷ 0 ∷ 0 ∷ 3 ∷ 0 ∷ 0 ∷ 0 ∷ 0 ∷ 0 ∷ 0 ∷ 3 ∷ 0
    ∷ 0 ∷ 0 ∷ 0 ∷ 0 ∷ 0 ∷ 0 ∷ 0 ∷ 0 ∷ 0 ∷ 0 ∷ 0 ∷ 0 ∷ 0 ∷ 0 ∷ 0 ∷ 0 ∷ 0 ∷ 0 ∷ 0 ∷ 0 ∷ 0 ∷ 0 ∷ 0 ∷ 0 ∷ 0 ∷ 0 ∷ 0 ∷ 0 ∷ 0 ∷ 0 ∷ 0 ∷ 0 ∷ 0 ∷ 1
    ∷ 0 ∷ 0 ∷ 0 ∷ 1 ∷ 0 ∷ 0 ∷ 0 ∷ 0 ∷ 0 ∷ 0 ∷ 0 ∷ 0 ∷ 0 ∷ 0 ∷ [])
    ∷ ending (Evict 7 7 ∷ Store 2 57 53 ∷ Store 7 57 90 ∷ Load 7 61 ∷ Release 7 ∷ Store 7 41 245 ∷ Load 8 64 ∷ Load 2 41 ∷ Evict 7 5
    ∷ Store 7 58 38 ∷ Load 7 44 ∷ Evict 2 5 ∷ []) (0 ∷ 0 ∷ 0 ∷ 0 ∷ 0 ∷ 0 ∷ 0 ∷ 0 ∷ 0 ∷ 0 ∷ 0 ∷ 0 ∷ 0 ∷ 0 ∷ 0 ∷ 0 ∷ 0 ∷ 0 ∷ 0 ∷ 0 ∷ 0 ∷ 0 ∷ 0
    ∷ 0 ∷ 0 ∷ 0 ∷ 0 ∷ 0 ∷ 0 ∷ 0 ∷ 0 ∷ 0 ∷ 0 ∷ 0 ∷ 0 ∷ 0 ∷ 0 ∷ 0 ∷ 0 ∷ 0 ∷ 0 ∷ 0 ∷ 0 ∷ 0 ∷ 0 ∷ 0 ∷ 0 ∷ 1 ∷ 0 ∷ 0 ∷ 0 ∷ 0 ∷ 0 ∷ 0 ∷ 0 ∷ 0 ∷ 0
    ∷ 0 ∷ 0 ∷ 0 ∷ 0 ∷ 0 ∷ 0 ∷ 3 ∷ [])
    ∷ ending (Store 7 37 251 ∷ Acquire 6 ∷ Evict 7 1 ∷ Acquire 7 ∷ Load 7 13 ∷ Store 3 13 14 ∷ Release 3 ∷ Acquire 7 ∷ Load 7 13 ∷ Acquire 3
    ∷ Load 3 37 ∷ Acquire 3 ∷ Load 6 13 ∷ Acquire 6 ∷ []) (0 ∷ 0 ∷ 0 ∷ 0 ∷ 0 ∷ 0 ∷ 0 ∷ 0 ∷ 0 ∷ 0 ∷ 0 ∷ 1 ∷ 0 ∷ 0 ∷ 1 ∷ 1 ∷ 0 ∷ 0 ∷ 0 ∷ 0 ∷ 0
    ∷ 0 ∷ 0 ∷ 0 ∷ 0 ∷ 0 ∷ 0 ∷ 0 ∷ 0 ∷ 0 ∷ 0 ∷ 0 ∷ 0 ∷ 0 ∷ 0 ∷ 1 ∷ 0 ∷ 0 ∷ 0 ∷ 1 ∷ 0 ∷ 0 ∷ 0 ∷ 0 ∷ 0 ∷ 0 ∷ 0 ∷ 0 ∷ 0 ∷ 0 ∷ 0 ∷ 0 ∷ 0 ∷ 0 ∷ 0
    ∷ 0 ∷ 0 ∷ 0 ∷ 0 ∷ 0 ∷ 0 ∷ 0 ∷ 0 ∷ 0 ∷ [])
    ∷ ending (Store 0 26 169 ∷ Store 4 20 17 ∷ Store 4 19 17 ∷ Store 4 23 76 ∷ Store 4 17 61 ∷ Store 4 61 49 ∷ Store 4 62 211
    ∷ Store 4 63 121 ∷ Load 5 49 ∷ Store 4 24 37 ∷ Store 5 43 227 ∷ Acquire 4 ∷ Store 7 4 127 ∷ Load 7 17 ∷ Release 7 ∷ Load 4 62 ∷ []) (0
    ∷ 0 ∷ 0 ∷ 0 ∷ 0 ∷ 0 ∷ 0 ∷ 3 ∷ 0 ∷ 0 ∷ 0 ∷ 0 ∷ 0 ∷ 0 ∷ 0 ∷ 0 ∷ 0 ∷ 0 ∷ 0 ∷ 0 ∷ 1 ∷ 0 ∷ 0 ∷ 1 ∷ 0 ∷ 0 ∷ 0 ∷ 0 ∷ 3 ∷ 0 ∷ 0 ∷ 0 ∷ 0 ∷ 0 ∷ 0
    ∷ 0 ∷ 0 ∷ 0 ∷ 0 ∷ 0 ∷ 0 ∷ 0 ∷ 0 ∷ 0 ∷ 0 ∷ 3 ∷ 0 ∷ 0 ∷ 0 ∷ 0 ∷ 0 ∷ 0 ∷ 0 ∷ 2 ∷ 0 ∷ 0 ∷ 0 ∷ 0 ∷ 0 ∷ 0 ∷ 3 ∷ 0 ∷ 0 ∷ 0 ∷ [])
    ∷ []

-- The reach of a buffer over bus MESI, over Neat, over a buffer over bus MESI, and over a buffer over Neat.
abbrev pub reaches : List ℕ
reaches = 5 ∷ 95 ∷ 30 ∷ 480 ∷ []
