-- The three parts of a record stand one behind the other.
use Rattle.std.proofs.Common.{◌+◌, length, ap, ◌∙◌, arith}
use Rattle.study_file.specs.Codes.{kind_number}
use Rattle.study_file.specs.Files.{bytes_of}
use Rattle.study_file.proofs.Filling.{put_parts}
use Rattle.study_file.proofs.writer.put_record.Goals as goal

pub returns : goal.returns
returns c = record {
  place = omega (arith, ap length c.two_bytes.ensures, ap length c.two_bytes-2.ensures);
  buffer =
      put_parts c.args.buffer.now _ _ _ c.args.at c.put-at.result c.put-at-2.result c.two_bytes.result c.two_bytes-2.result c.args.fields.now (bytes_of (2 + length c.args.fields.now)) (bytes_of (kind_number c.args.kind)) c.two_bytes.ensures
      (c.two_bytes-2.ensures ∙ ap bytes_of c.from.ensures)
      c.put-at.ensures.buffer c.put-at.ensures.place c.put-at-2.ensures.buffer c.put-at-2.ensures.place c.put.ensures.buffer (omega (arith, ap length c.two_bytes.ensures, ap length c.two_bytes-2.ensures));
}
