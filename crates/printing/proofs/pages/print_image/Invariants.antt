-- The digits of the addresses so far are put, in every study.
use Rattle.std.proofs.Common.{◌≡◌}
use Rattle.races.specs.Log.{Log}
use Rattle.races.specs.Study.{Watched}
use Rattle.report.specs.Page.{buffer_of, Puts}
use Rattle.printing.specs.Page.{image_digits}
use Rattle.printing.proofs.pages.print_image.Given as goal

abbrev pub invariant-loop-address : goal.invariant-loop-address
invariant-loop-address g l = record {
  same_buffer : buffer_of l.page ≡ buffer_of l.initial.page;
  image : (log : Log) → Watched g.P.Protocol.machine (g.P.Protocol.state l.bench.protocol) l.bench.races log → Puts l.initial.page l.page (image_digits (g.P.Protocol.machine.moment (g.P.Protocol.state l.bench.protocol)).view.home l.address);
}
