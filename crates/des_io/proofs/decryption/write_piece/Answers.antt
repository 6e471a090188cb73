use Rattle.std.proofs.Common.{rules, refl, sym, subst, ap, length, take, ◌∙◌}
use Rattle.std.specs.Prelude.{IsOk}
use Rattle.std.specs.Io.KnownBytes.{Appends}
use Rattle.des_io.proofs.DecryptedPieces.{WritesPiece-pending, WritesPiece-prefix, WritesPiece-whole, WritesPiece-none, length-last}
use Rattle.des_io.proofs.decryption.write_piece.Goals as goal

pub returns-in_err-write_pending-clause-written : goal.returns-in_err-write_pending-clause-written
returns-in_err-write_pending-clause-written g c =
    let fails : IsOk c.from_residual.result → ⊥ = search rules in
    let (k, within, written, full) = c.in_err-write_pending.ensures.written in
    WritesPiece-pending c.in-Some.rest.now c.in-Some.last.now k fails
    (length-last _ _ _ c.in-Some.ensures.cases.0 c.told-blocks) c.in-Some.ensures.cases.0
    written

pub returns-in_err-write_whole-clause-written : goal.returns-in_err-write_whole-clause-written
returns-in_err-write_whole-clause-written g c =
    let fails : IsOk c.from_residual-in_err-write_whole.result → ⊥ = search rules in
    let (k, within, first, full) = c.in_ok-write_pending.ensures.written in
    let (m, inside, put, all) = c.in_err-write_whole.ensures.written in
    let second = subst (Appends _ _) (ap (take m) c.as_flattened.ensures.value) put in
    WritesPiece-prefix c.in-Some.rest.now c.in-Some.last.now _ k m fails
    (length-last _ _ _ c.in-Some.ensures.cases.0 c.told-blocks)
    c.in-Some.ensures.cases.0 (full refl) first second

pub returns-in_ok-write_whole-clause-written : goal.returns-in_ok-write_whole-clause-written
returns-in_ok-write_whole-clause-written g c =
    let (k, within, first, full) = c.in_ok-write_pending.ensures.written in
    let (m, inside, put, all) = c.in_ok-write_whole.ensures.written in
    let second = subst (Appends _ _) (ap (take m) c.as_flattened.ensures.value) put in
    let same = ap length c.as_flattened.ensures.value in
    WritesPiece-whole c.in-Some.rest.now c.in-Some.last.now _ k m
    (length-last _ _ _ c.in-Some.ensures.cases.0 c.told-blocks) c.in-Some.ensures.cases.0 (full refl) first
    (all refl ∙ same)
    (sym same ∙ c.as_flattened.ensures.len) second

pub returns-in_default-clause-written : goal.returns-in_default-clause-written
returns-in_default-clause-written g c = WritesPiece-none _ _ _ _ (search rules)
