use Rattle.std.proofs.Common.{ℕ, List}
use Rattle.des.specs.Enciphering.{Enciphers}
use Rattle.des.specs.Laws.Passes.{IsGraphOf-alike}
use Rattle.des.proofs.RelatedLists.{IsTheOne-map_turned}
use Rattle.des_fast.specs.Des.{decrypted}
use Rattle.des_fast.specs.Laws.DesLaws.{Agree-decrypted}
use Rattle.des_uses.proofs.fast_lists.decrypt_list_by_fast_des.Goals as goal

pub returns : goal.returns
returns c =
    let key : List ℕ = c.args.key.now in
    let cipher = c.new-cipher.result in
    let alike = Agree-decrypted cipher key c.new-cipher.ensures.made in
    rw c.decrypt_many.ensures.decrypted
    (IsTheOne-map_turned (decrypted cipher) (λ x y. Enciphers key x y)
    (IsGraphOf-alike (λ y x. Enciphers key x y) alike c.new-cipher.ensures.decryption) c.args.blocks.now
    c.decrypt_many.ensures.blocks)
