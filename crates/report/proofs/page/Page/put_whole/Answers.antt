use Rattle.std.proofs.Common.{refl, arith, sym, ◌∙◌, length}
use Rattle.std.proofs.lemmas.List.{take_all, length-drop}
use Rattle.report.proofs.Paging.{mid_fills, mid_keeps}
use Rattle.report.proofs.page.Page.put_whole.Goals as goal

pub returns : goal.returns
returns c =
    let behind = length-drop c.args.self.now.filled c.args.self.now.buffer.now in
    let all = c.copy_from_slice.ensures.after ∙ sym (take_all (length c.args.bytes.now) c.args.bytes.now (omega arith)) in
    record {
      same_buffer = refl;
      fills = mid_fills c.args.self.now.buffer.now c.args.bytes.now c.copy_from_slice.new.self c.args.self.now.filled (length c.args.bytes.now) _ c.args.self.now.within (omega (arith, c.requires, behind)) all (omega arith);
      keeps = mid_keeps c.args.self.now.buffer.now c.args.bytes.now c.copy_from_slice.new.self c.args.self.now.filled (length c.args.bytes.now) _ c.args.self.now.within (omega (arith, c.requires, behind)) all (omega arith);
    }
