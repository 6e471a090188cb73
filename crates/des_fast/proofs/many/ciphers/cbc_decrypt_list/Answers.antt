-- Batches, and then the few that are left over.
use Rattle.std.proofs.Common.{◌≡◌, ℕ, List, ◌++◌, take-append-drop, sym, ap₂, ◌∙◌}
use Rattle.des.specs.Cbc.{CbcDecrypts, next_vector}
use Rattle.des.proofs.ChainedPieces.{CbcDecrypts-append}
use Rattle.des_fast.proofs.many.ciphers.cbc_decrypt_list.Goals as goal

pub returns-clause-cbc_decrypted : goal.returns-clause-cbc_decrypted
returns-clause-cbc_decrypted g c =
    let D = g.P.BlockTransform.output c.args.passes.now in
    let iv : List ℕ = c.args.iv.now in
    let blocks : List (List ℕ) = c.args.blocks.now in
    let batches : List (List ℕ) = c.split_at_mut-batches.result.0.now in
    let few : List (List ℕ) = c.split_at_mut-batches.result.1.now in
    let whole : batches ++ few ≡ blocks =
    ap₂ ◌++◌ c.split_at_mut-batches.ensures.front c.split_at_mut-batches.ensures.back
    ∙ take-append-drop c.in_batches.result blocks in
    let rest : CbcDecrypts D (next_vector iv batches) few c.cbc_decrypt_few.new.blocks =
    rw (sym c.next_vector-next.ensures) c.cbc_decrypt_few.ensures.cbc_decrypted in
    rw (sym whole)
    (CbcDecrypts-append D iv batches c.cbc_decrypt_batches.new.blocks few c.cbc_decrypt_few.new.blocks c.cbc_decrypt_batches.ensures
    rest)
