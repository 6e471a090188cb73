use Rattle.std.proofs.Common.{ℕ, List}
use Rattle.des.specs.Enciphering.{Enciphers}
use Rattle.des.specs.Laws.Passes.{IsGraphOf-alike}
use Rattle.des.proofs.RelatedLists.{IsTheOne-map}
use Rattle.des_fast.specs.Des.{encrypted}
use Rattle.des_fast.specs.Laws.DesLaws.{Agree-encrypted}
use Rattle.des_uses.proofs.fast_lists.encrypt_list_by_fast_des.Goals as goal

pub returns : goal.returns
returns c =
    let key : List ℕ = c.args.key.now in
    let cipher = c.new-cipher.result in
    let alike = Agree-encrypted cipher key c.new-cipher.ensures.made in
    rw c.encrypt_many.ensures.encrypted
    (IsTheOne-map (encrypted cipher) (λ x y. Enciphers key x y)
    (IsGraphOf-alike (λ x y. Enciphers key x y) alike c.new-cipher.ensures.encryption) c.args.blocks.now
    c.encrypt_many.ensures.blocks)
