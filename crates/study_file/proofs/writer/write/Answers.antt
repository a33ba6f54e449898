-- The code's record and the steps' make the file.
use Rattle.std.proofs.Common.{◌≡◌, Some, arith}
use Rattle.study_file.specs.Codes.{code_named}
use Rattle.study_file.proofs.Filling.{file_written}
use Rattle.study_file.proofs.Trips.{kept}
use Rattle.study_file.proofs.writer.write.Goals as goal

pub returns : goal.returns
returns c =
    let named : Some c.in_ok-code.code ≡ code_named c.args.code = grind arith in
    kept c.args.code c.args.steps.now c.args.buffer.now _ _ (file_written c.args.code c.in_ok-code.code c.args.steps.now c.args.buffer.now c.put_record-at.new.buffer c.put_steps.new.buffer c.file_length.result c.put_record-at.result c.put_steps.result
    c.from.result named c.if-steps-gt-MOST_STEPS.false c.file_length.ensures c.if-buffer-file_length.false c.from.ensures c.put_record-at.ensures.place
    c.put_record-at.ensures.buffer c.put_steps.ensures.place c.put_steps.ensures.buffer)
