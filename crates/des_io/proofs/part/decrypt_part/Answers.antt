use Rattle.std.proofs.Common.{◌≡◌, true, false, rules}
use Rattle.des_io.proofs.DecryptedParts.{EndsPart-more, EndsPart-last, DecryptsPartPrefix-pending, DecryptsPartPrefix-read}
use Rattle.des_io.proofs.part.decrypt_part.Goals as goal

pub returns-then-not-branch : goal.returns-then-not-branch
returns-then-not-branch g c =
    let (bytes, read, after) = c.in_ok-is_at_end.ensures.read in
    let off : c.in_ok-is_at_end.field-0 ≡ false = search rules in
    let more = rw off at after in
    let all = EndsPart-more _ c.args.transformation.now.padding bytes c.in_ok-last.ensures.done read more
    c.finish.ensures.ended in
    record { done = all.done; prefix = all.prefix; fault = all.fault }

pub returns-in-None-clause-prefix : goal.returns-in-None-clause-prefix
returns-in-None-clause-prefix g c =
    let (bytes, read, after) = c.in_ok-is_at_end.ensures.read in
    DecryptsPartPrefix-read bytes c.in_ok-last.ensures.done read

pub returns-in-Some : goal.returns-in-Some
returns-in-Some g c =
    let (bytes, read, after) = c.in_ok-is_at_end.ensures.read in
    let on : c.in_ok-is_at_end.field-0 ≡ true = search rules in
    let end = rw on at after in
    let all = EndsPart-last _ _ _ bytes c.in-Some.is c.in_ok-last.ensures.done read end.0 end.1
    c.finish-in-Some.ensures.ended in
    record { done = all.done; prefix = all.prefix; fault = all.fault }

pub returns-in_err-last-clause-prefix : goal.returns-in_err-last-clause-prefix
returns-in_err-last-clause-prefix g c = DecryptsPartPrefix-pending c.in_err-last.ensures.prefix

pub returns-in_err-is_at_end-clause-prefix : goal.returns-in_err-is_at_end-clause-prefix
returns-in_err-is_at_end-clause-prefix g c =
    let (bytes, read) = c.in_err-is_at_end.ensures.consumed in
    DecryptsPartPrefix-read bytes c.in_ok-last.ensures.done read
