-- What a page holds, and what a write into it changes.
use Rattle.std.specs.Prelude.{◌≡◌, ℕ, List, ◌++◌, length, take, drop}
use Rattle.std.specs.Borrow.{GName}
use Rattle.report.specs.declared.page.Page.{Page}

-- The bytes that were written.
abbrev pub written : Page → List ℕ
written p = take p.filled p.buffer.now

-- The bytes of the buffer behind them.
abbrev pub rest : Page → List ℕ
rest p = drop p.filled p.buffer.now

-- The buffer, whatever it holds.
abbrev pub buffer_of : Page → GName
buffer_of p = p.buffer.ghost_name

-- Some bytes go behind what was written, as far as there is room, and the rest of the buffer is as it was.
pub record Puts (old new : Page) (bytes : List ℕ) : Type 0 where
  pub same_buffer : buffer_of new ≡ buffer_of old
  pub fills : written new ≡ written old ++ take (length (rest old)) bytes
  pub keeps : rest new ≡ drop (length bytes) (rest old)
