use Rattle.std.proofs.lemmas.Result.{err_from_is_err_and}
use Rattle.std.proofs.Common.{None, [], append-nil}
use Rattle.des_io.proofs.DecryptedEnds.{Decrypts-ended, WithinPrefix-ended, WithinPrefix-fault, FailsToDecrypt-ended}
use Rattle.des_io.proofs.DecryptedPrefixes.{DecryptsPrefix-within, WithinPrefix-pending}
use Rattle.des_io.proofs.LimitedBlocks.{ends_alone}
use Rattle.des_io.proofs.decryption.decrypt_stream.Goals as goal

pub returns-in_err-finish-clause-prefix : goal.returns-in_err-finish-clause-prefix
returns-in_err-finish-clause-prefix g c =
    DecryptsPrefix-within {limit = None}
    (WithinPrefix-fault _ c.in_ok-last.ensures.done.holds tt c.in_err-finish.ensures.ended
    (ends_alone _ _ c.in_ok-last.ensures.done.ends))

pub returns-in_err-finish-clause-fault : goal.returns-in_err-finish-clause-fault
returns-in_err-finish-clause-fault g c =
    let p = err_from_is_err_and c.from_residual-in_err-finish.result c.from_residual-in_err-finish.ensures.1 in
    rw (p.1, p.2) (FailsToDecrypt-ended _ _ _ c.in_ok-last.ensures.done.holds
    c.in_err-finish.ensures.ended (ends_alone _ _ c.in_ok-last.ensures.done.ends))

pub returns-clause-done : goal.returns-clause-done
returns-clause-done g c =
    let (plain, is, written) = c.in_ok-finish.ensures.ended in
    (Decrypts-ended _ plain c.in_ok-last.ensures.done.holds is written).0

pub returns-clause-prefix : goal.returns-clause-prefix
returns-clause-prefix g c =
    let (plain, is, written) = c.in_ok-finish.ensures.ended in
    DecryptsPrefix-within {limit = None}
    (WithinPrefix-ended plain plain [] c.in_ok-last.ensures.done.holds tt
    (ends_alone _ _ c.in_ok-last.ensures.done.ends) is
    (append-nil plain) written)

pub returns-in_err-last-clause-prefix : goal.returns-in_err-last-clause-prefix
returns-in_err-last-clause-prefix g c =
    DecryptsPrefix-within (WithinPrefix-pending c.in_err-last.ensures.prefix)
