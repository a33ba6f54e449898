use Rattle.std.proofs.Common.{refl, arith}
use Rattle.study_file.proofs.Filling.{put_is}
use Rattle.study_file.proofs.writer.put.Goals as goal

pub returns : goal.returns
returns c = record {
  place = refl;
  buffer = put_is c.args.at _ c.args.buffer.now c.copy_from_slice.new.self c.args.bytes.now c.copy_from_slice.ensures.after (omega arith);
}
