use Rattle.std.proofs.Common.{◌∙◌, sym, ◌++◌, List, ℕ, drop, length, replicate, ap}
use Rattle.des_passwords.proofs.BlockKeys.{block_of_short, block_of_long}
use Rattle.des_passwords.proofs.hmac.block_key.Goals as goal

pub returns-then-key-le64 : goal.returns-then-key-le64
returns-then-key-le64 g c =
    ap (λ (bytes : List ℕ). bytes ++ drop (length c.args.key.now) (replicate 64 0)) c.copy_from_slice.ensures.after
    ∙ block_of_short g.H.HashFunction.digest c.args.key.now c.if-key-le64.true

pub returns-else-key-le64 : goal.returns-else-key-le64
returns-else-key-le64 g c =
    let hashed = c.write_digest_of.new.answer in
    ap (λ (n : ℕ). hashed ++ drop n (replicate 64 0)) (c.SIZE.ensures ∙ sym c.write_digest_of.ensures.count)
    ∙ block_of_long g.H.HashFunction.digest c.args.key.now hashed c.if-key-le64.false c.write_digest_of.ensures.digest
