use Rattle.des_uses.proofs.JoinedParts.{joined_done, start_last}
use Rattle.des_uses.proofs.streams.decrypt_in_two_parts.Goals as goal

pub returns-clause-done : goal.returns-clause-done
returns-clause-done g c =
    joined_done _ _ _ c.in_ok-decrypt_blocks_of_part.ensures.done c.in_ok-mode.ensures.skips
    c.decrypt_rest.ensures.done

pub returns-clause-start : goal.returns-clause-start
returns-clause-start g c =
    start_last _ _ _ _ _ _ _ c.in_ok-mode.ensures.skips c.decrypt_rest.ensures.fault
