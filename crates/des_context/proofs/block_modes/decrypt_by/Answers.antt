use Rattle.std.proofs.Common.{ℕ, List}
use Rattle.des_context.specs.CipherTypes.{relation_of}
use Rattle.des_context.proofs.RelationsByLength.{AnswersEach-same}
use Rattle.des_context.proofs.block_modes.decrypt_by.Goals as goal

pub returns : goal.returns
returns g c key context =
    let made = c.of.ensures key context in
    let relates = (g.met.C.ContextCipher.relates_by_length c.of.result key made).relates in
    let blocks : List (List ℕ) = c.args.blocks.now in
    let same = λ (plaintext : List (List ℕ)). AnswersEach-same (g.C.Relating.relation key) (relation_of key) relates plaintext blocks in
    let one = c.decrypt_list_by.ensures.processed key made in
    ((same c.decrypt_list_by.new.blocks).0 one.0, λ other is. one.1 other ((same other).1 is))
