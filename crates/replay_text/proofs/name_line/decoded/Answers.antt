use Rattle.replay_text.proofs.NameTexts.{decode-room}
use Rattle.replay_text.proofs.name_line.decoded.Goals as goal

pub returns-in-Err-clause-only : goal.returns-in-Err-clause-only
returns-in-Err-clause-only c = λ name long is.
    let room = decode-room c.args.digits.now name 32 long is in
    let read = rw room at c.in-Err.ensures.value in
    cc read.0
