-- Each turn prints the two digits of one address.
use Rattle.std.proofs.Common.{◌∙◌}
use Rattle.printing.proofs.Filling.{image_more}
use Rattle.printing.proofs.pages.print_image.Goals as goal

pub loop-address-preserved : goal.loop-address-preserved
loop-address-preserved g c = record {
  same_buffer = c.put.ensures.same_buffer ∙ c.loop-address.invariant.same_buffer;
  image = λ log h.
      image_more (g.P.Protocol.machine.moment (g.P.Protocol.state c.args.bench.now.protocol)).view.home c.byte_digits.result c.loop-address.address c.unwrap_or-byte.result c.image.result c.loop-address-test.true (c.loop-address.invariant.image log h) c.byte_digits.ensures c.unwrap_or-byte.ensures (c.image.ensures.means log h) c.put.ensures;
}
