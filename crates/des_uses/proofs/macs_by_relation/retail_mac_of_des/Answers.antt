use Rattle.std.proofs.Common.{◌≡◌, ◌<◌, List, ℕ, [], ◌++◌, take, drop, rules}
use Rattle.std.proofs.lemmas.List.{take_at, drop_at}
use Rattle.std.proofs.lemmas.List.Elements.{All-from_get_or}
use Rattle.des.specs.Blocks.{AreBytes, IsKey}
use Rattle.des.specs.Des.{encryption, decryption}
use Rattle.des.specs.Enciphering.{Enciphers}
use Rattle.des.proofs.Graphs.{IsGraphOf-encryption, IsGraphOf-decryption}
use Rattle.des_mac.specs.Padding.{one_bit_after, padded}
use Rattle.des_mac.proofs.PaddedBytes.{CanChain-one_bit_after}
use Rattle.des_mac.proofs.RelatedRetailMacs.{IsTheOne-retail_mac}
use Rattle.des_uses.proofs.macs_by_relation.retail_mac_of_des.Goals as goal

-- the tag is that of the two keys, whose graphs are the relations
pub returns : goal.returns
returns c =
    let first : List ℕ = c.args.first.now in
    let second : List ℕ = c.args.second.now in
    let message : List ℕ = c.args.message.now in
    let is_first : IsKey 8 first =
    (c.told-first, All-from_get_or (λ byte. byte < 256) first 0 (λ i within. c.fits-first i)) in
    let is_second : IsKey 8 second =
    (c.told-second, All-from_get_or (λ byte. byte < 256) second 0 (λ i within. c.fits-second i)) in
    let bytes : AreBytes message = All-from_get_or (λ byte. byte < 256) message 0 (λ i within. search rules) in
    let front : take 8 (first ++ second) ≡ first = take_at first second 8 is_first.0 in
    let rest : drop 8 (first ++ second) ≡ second = drop_at first second 8 is_first.0 in
    let chains = CanChain-one_bit_after message bytes in
    IsTheOne-retail_mac (encryption first) (decryption second)
    (λ x y. Enciphers first x y) (λ x y. Enciphers second x y)
    (IsGraphOf-encryption first is_first) (IsGraphOf-decryption second is_second)
    (padded one_bit_after message) chains.0
    (λ x y related. related.last_is_block) (λ x y related. related.first_is_block) c.finalize.result chains.1
    (rw (front, rest) at
    (c.finalize.ensures (first ++ second) message (c.update.ensures (first ++ second) [] c.new-state.ensures)))
