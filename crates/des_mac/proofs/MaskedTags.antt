-- The bytes that CMAC chains, by whether the last block is whole.
use Rattle.std.proofs.Common.{◌≡◌, ℕ, ◌*◌, ◌<◌, List, length, nat_eq, true, false, refl, arith}
use Rattle.std.proofs.lemmas.Bool.Decides.{nat_tests}
use Rattle.des_mac.specs.Padding.{block_count, last_count, AreWholeBlocks, one_bit_after, padded}
use Rattle.des_mac.specs.Cmac.{subkey_1, subkey_2, masked, masked_message}

pub masked_message-whole : (l m : List ℕ) → last_count (length m) ≡ 8 → masked_message l m ≡ masked (subkey_1 l) m
unfolding masked_message
masked_message-whole l m full =
    let is : nat_eq (length m) (block_count (length m) * 8) ≡ true = grind (arith, nat_tests) in
    rw is refl

pub masked_message-part : (l m : List ℕ) → last_count (length m) < 8
    → masked_message l m ≡ masked (subkey_2 l) (padded one_bit_after m)
unfolding masked_message
masked_message-part l m part =
    let is : nat_eq (length m) (block_count (length m) * 8) ≡ false = grind (arith, nat_tests) in
    rw is refl

-- bytes whose last block is whole are whole blocks
pub AreWholeBlocks-full : (m : List ℕ) → last_count (length m) ≡ 8 → AreWholeBlocks (length m)
AreWholeBlocks-full m full = (omega arith, omega arith)
