-- The rules of the bus for one line, state by event.
use Rattle.std.specs.Prelude.{ℕ, List, map, replicate, slice_index, slice_index_or, slice_set}
use Rattle.std.specs.List.{list_any}
use Rattle.mesi_rules.specs.declared.calls.Call.{Call}
use Rattle.mesi_rules.specs.declared.calls.Call.TheVariants.{Load, Store, Evict}
use Rattle.mesi_rules.specs.declared.copies.PrivateLine.{PrivateLine}
use Rattle.mesi_rules.specs.declared.copies.PrivateLine.TheVariants.{Invalid, Shared, Exclusive, Modified}
use Rattle.mesi_rules.specs.Copies.{holds, downgraded, held_or, fetched, modified_or}

-- A line's row: its copies by core, and the LLC's line.
pub record LineRow : Type 0 where
  pub copies : List PrivateLine
  pub llc : List ℕ

-- After a clear every core has I, and the LLC's bytes are 00.
abbrev pub cleared_row : LineRow
cleared_row = record { copies = replicate 8 Invalid; llc = replicate 8 0 }

-- The copy of core c.
abbrev pub copy_at : LineRow → ℕ → PrivateLine
copy_at r c = slice_index_or r.copies c Invalid

-- Home is the M copy, else the LLC's line.
abbrev pub home_line : LineRow → List ℕ
home_line r = modified_or r.llc r.copies

-- A core sees its own copy if it holds the line, else home.
abbrev pub seen_line : LineRow → ℕ → List ℕ
seen_line r c = held_or (home_line r) (copy_at r c)

-- The byte at offset o at home.
abbrev pub home_at : LineRow → ℕ → ℕ
home_at r o = slice_index (home_line r) o

-- The byte at offset o that core c sees.
abbrev pub seen_at : LineRow → ℕ → ℕ → ℕ
seen_at r c o = slice_index (seen_line r c) o

-- A core's M line goes into the LLC.
abbrev pub flushed : LineRow → LineRow
flushed r = record { copies = r.copies; llc = home_line r }

-- M or E becomes S, and core c takes the LLC's line: as S if another core holds it, else as E.
abbrev pub taken : LineRow → ℕ → LineRow
taken r c = record { copies = slice_set (map downgraded r.copies) c (fetched (list_any holds r.copies) r.llc); llc = r.llc }

-- What goes over the bus at a call, by the state of the caller's copy. Load or store in I: another core's M line goes into the
-- LLC first, then the caller takes the line. Evict of an M line puts it into the LLC. Elsewhere nothing.
abbrev pub transaction : PrivateLine → Call → LineRow → ℕ → LineRow
transaction Invalid Load r c = taken (flushed r) c
transaction Invalid Store r c = taken (flushed r) c
transaction Invalid Evict r c = r
transaction (Shared d) k r c = r
transaction (Exclusive d) k r c = r
transaction (Modified d) Load r c = r
transaction (Modified d) Store r c = r
transaction (Modified d) Evict r c = record { copies = r.copies; llc = d }

-- The row after what goes over the bus at a call k of core c.
abbrev pub transacted : LineRow → ℕ → Call → LineRow
transacted r c k = transaction (copy_at r c) k r c

-- Core c has the line in M, and all others have I.
abbrev pub finished : LineRow → ℕ → List ℕ → LineRow
finished r c line = record { copies = slice_set (replicate 8 Invalid) c (Modified line); llc = r.llc }

-- Core c gets the line for a store: after its transaction it has what it sees in M, and all others have I.
abbrev pub owned : LineRow → ℕ → LineRow
owned r c = finished (transacted r c Store) c (seen_line (transacted r c Store) c)

-- A load is its transaction; the core then reads what it sees.
abbrev pub loaded : LineRow → ℕ → LineRow
loaded r c = transacted r c Load

-- A store of byte b at offset o writes into the line that the core sees after the transaction, and leaves it in M, all others in I.
abbrev pub stored : LineRow → ℕ → ℕ → ℕ → LineRow
stored r c o b = finished (transacted r c Store) c (slice_set (seen_line (transacted r c Store) c) o b)

-- An evict leaves I after its transaction.
abbrev pub evicted : LineRow → ℕ → LineRow
evicted r c = record { copies = slice_set (transacted r c Evict).copies c Invalid; llc = (transacted r c Evict).llc }
