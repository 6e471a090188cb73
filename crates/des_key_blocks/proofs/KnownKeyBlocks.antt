-- Published key blocks hold their keys: the definitions, computed.
use Rattle.std.proofs.Common.{◌≡◌, ℕ, zero, suc, ◌≤◌, inl, List, [], ◌∷◌, ◌++◌, length, nat_lt, true, codes, refl, lit<, arith}
use Rattle.std.specs.Int.{w64, to_be_bytes}
use Rattle.std.specs.List.{list_all}
use Rattle.std.proofs.lemmas.Bool.{ltb-true}
use Rattle.std.proofs.lemmas.List.Sums.{AllPass-from_list_all}
use Rattle.des.specs.Bits.{bits_of, bits_of_bytes, number_of, select, xor_bits}
use Rattle.des.specs.Blocks.{AreBytes, block_of_bits}
use Rattle.des.specs.Cbc.{xor_blocks, block_at, block_before, Cbc}
use Rattle.des.specs.CipherFunction.{box_entry, substitute_by, cipher_function}
use Rattle.des.specs.KeySchedule.{c_half, d_half, rotate, shifts_through, round_key, key_schedule}
use Rattle.des.specs.Rounds.{after_rounds, through_rounds}
use Rattle.des_mac.specs.CbcMac.{chain_after, cbc_mac}
use Rattle.des_mac.specs.Cmac.{doubled, masked, masked_message}
use Rattle.des_key_blocks.specs.Hex.{hex_of, hex_number}
use Rattle.des_key_blocks.specs.KeyBlocks.{joined, IsKeyBlock}
use Rattle.des_key_blocks.specs.OptionalBlocks.{AreOptionalBlocks}
use Rattle.des_key_blocks.specs.declared.key_block_header.Header.{Header}
use Rattle.des_key_blocks.specs.declared.key_block_header.KeyContext.TheVariants.{StorageOrExchange}
use Rattle.des_key_blocks.specs.declared.key_block_header.Version.TheVariants.{A, B, C}
use Rattle.des_key_blocks.specs.declared.key_block_header.Usage.TheVariants.{BaseDerivation, PinEncryption}
use Rattle.des_key_blocks.specs.declared.key_block_header.Algorithm.TheVariants.{TripleDes}
use Rattle.des_key_blocks.specs.declared.key_block_header.ModeOfUse.TheVariants.{Derive, Encrypt}
use Rattle.des_key_blocks.specs.declared.key_block_header.Exportability.TheVariants.{Exportable, Sensitive}

-- eight bytes as a word, and sixteen as two
abbrev bytes : ℕ → List ℕ
bytes word = to_be_bytes w64 word

abbrev key : ℕ → ℕ → List ℕ
key left right = bytes left ++ bytes right

-- bytes, by a test
are_bytes : (bytes : List ℕ) → list_all (λ byte. nat_lt byte 256) bytes ≡ true → AreBytes bytes
are_bytes bytes all =
    λ i d within. ltb-true _ 256 (AllPass-from_list_all (λ byte. nat_lt byte 256) bytes all i d within)

-- three blocks by CBC
module _ (encryption : List ℕ → List ℕ) (iv p1 p2 p3 q1 q2 q3 : List ℕ) where
  abbrev clear : List (List ℕ)
  clear = p1 ∷ p2 ∷ p3 ∷ []

  abbrev encrypted : List (List ℕ)
  encrypted = q1 ∷ q2 ∷ q3 ∷ []

  module _ (is_p1 : length p1 ≡ 8) (is_p2 : length p2 ≡ 8) (is_p3 : length p3 ≡ 8) where
    widths : (n : ℕ) → 1 ≤ n → n ≤ 3 → length (block_at clear n) ≡ 8
    widths zero from to = absurd (omega arith)
    widths (suc zero) from to = is_p1
    widths (suc (suc zero)) from to = is_p2
    widths (suc (suc (suc zero))) from to = is_p3
    widths (suc (suc (suc (suc m)))) from to = absurd (omega arith)

    module _ (is_q1 : q1 ≡ encryption (xor_blocks p1 iv)) (is_q2 : q2 ≡ encryption (xor_blocks p2 q1))
        (is_q3 : q3 ≡ encryption (xor_blocks p3 q2)) where
      steps : (n : ℕ) → 1 ≤ n → n ≤ 3
          → block_at encrypted n ≡ encryption (xor_blocks (block_at clear n) (block_before iv encrypted n))
      steps zero from to = absurd (omega arith)
      steps (suc zero) from to = is_q1
      steps (suc (suc zero)) from to = is_q2
      steps (suc (suc (suc zero))) from to = is_q3
      steps (suc (suc (suc (suc m)))) from to = absurd (omega arith)

      three-by_cbc : Cbc encryption iv clear encrypted
      three-by_cbc = record { count = refl; widths = widths; chained = steps }

-- version A
abbrev header_A : Header
header_A = record {
  version = A;
  usage = PinEncryption;
  algorithm = TripleDes;
  mode = Encrypt;
  key_version = codes "00";
  exportability = Exportable;
}

abbrev data_A : List (List ℕ)
data_A = bytes 0x0080f039121bec83 ∷ bytes 0xd26b169bdcd5b22a ∷ bytes 0xaf8f720df563bb07 ∷ []

known_block-A : IsKeyBlock (key 0x89e88cf7931444f3 0x34bd7547fc3f380c) header_A []
    (key 0xf039121bec83d26b 0x169bdcd5b22aaf8f) (0x72 ∷ 0x0d ∷ 0xf5 ∷ 0x63 ∷ 0xbb ∷ 0x07 ∷ [])
    (codes "A0072P0TE00E0000F5161ED902807AF26F1D62263644BD24192FDB3193C730301CEE8701")
unfolding bits_of bits_of_bytes select substitute_by box_entry number_of cipher_function xor_bits
    round_key c_half d_half rotate shifts_through key_schedule after_rounds through_rounds block_of_bits xor_blocks
    chain_after cbc_mac hex_of AreOptionalBlocks
known_block-A = record {
  front = codes "A0072P0TE00E0000";
  sealed = codes "F5161ED902807AF26F1D62263644BD24192FDB3193C730301CEE8701";
  parts = record {
    context = StorageOrExchange;
    optional = [];
    is_header = (refl, refl);
    short = lit< tt;
    few = lit< tt;
    are_optional = refl;
    whole = refl;
    is_front = refl;
    is_block = refl;
  };
  is_protection = refl;
  is_clear = refl;
  is_sealed = record {
    blocks = data_A;
    encrypted = bytes 0xf5161ed902807af2 ∷ bytes 0x6f1d62263644bd24 ∷ bytes 0x192fdb3193c73030 ∷ [];
    mac = 0x1c ∷ 0xee ∷ 0x87 ∷ 0x01 ∷ [];
    is_clear = refl;
    are_bytes = are_bytes (joined data_A) refl;
    is_mac = refl;
    chained = three-by_cbc _ _ _ _ _ _ _ _ refl refl refl refl refl refl;
    is_text = refl;
  };
}

-- version B
abbrev header_B : Header
header_B = record {
  version = B;
  usage = PinEncryption;
  algorithm = TripleDes;
  mode = Encrypt;
  key_version = codes "00";
  exportability = Exportable;
}

abbrev data_B : List (List ℕ)
data_B = bytes 0x00803f419e1cb707 ∷ bytes 0x9442aa37474c2efb ∷ bytes 0xf8b81c2965473ce2 ∷ []

known_block-B : IsKeyBlock (key 0xdd7515f2bfc17f85 0xce48f3ca25cb21f6) header_B []
    (key 0x3f419e1cb7079442 0xaa37474c2efbf8b8) (0x1c ∷ 0x29 ∷ 0x65 ∷ 0x47 ∷ 0x3c ∷ 0xe2 ∷ [])
    (codes "B0080P0TE00E000094B420079CC80BA3461F86FE26EFC4A3B8E4FA4C5F5341176EED7B727B8A248E")
unfolding bits_of bits_of_bytes select substitute_by box_entry number_of cipher_function xor_bits
    round_key c_half d_half rotate shifts_through key_schedule after_rounds through_rounds block_of_bits xor_blocks
    chain_after cbc_mac hex_of AreOptionalBlocks doubled masked masked_message
known_block-B = record {
  front = codes "B0080P0TE00E0000";
  sealed = codes "94B420079CC80BA3461F86FE26EFC4A3B8E4FA4C5F5341176EED7B727B8A248E";
  parts = record {
    context = StorageOrExchange;
    optional = [];
    is_header = (refl, refl);
    short = lit< tt;
    few = lit< tt;
    are_optional = refl;
    whole = refl;
    is_front = refl;
    is_block = refl;
  };
  is_protection = refl;
  is_clear = refl;
  is_sealed = record {
    blocks = data_B;
    encrypted = bytes 0x94b420079cc80ba3 ∷ bytes 0x461f86fe26efc4a3 ∷ bytes 0xb8e4fa4c5f534117 ∷ [];
    mac = bytes 0x6eed7b727b8a248e;
    is_clear = refl;
    are_bytes = are_bytes (joined data_B) refl;
    is_mac = refl;
    chained = three-by_cbc _ _ _ _ _ _ _ _ refl refl refl refl refl refl;
    is_text = refl;
  };
}

-- version C, with an optional block
abbrev header_C : Header
header_C = record {
  version = C;
  usage = BaseDerivation;
  algorithm = TripleDes;
  mode = Derive;
  key_version = codes "12";
  exportability = Sensitive;
}

abbrev serial_block : List ℕ
serial_block = codes "KS1800604B120F9292800000"

abbrev data_C : List (List ℕ)
data_C = bytes 0x0080edb380dd340b ∷ bytes 0xc2620247d445f5b8 ∷ bytes 0xd6788546a8ed98d1 ∷ []

known_block-C : IsKeyBlock (key 0xb8ed59e0a279a295 0xe9f5ed7944fd06b9) header_C
    ((codes "KS", codes "00604B120F9292800000") ∷ [])
    (key 0xedb380dd340bc262 0x0247d445f5b8d678) (0x85 ∷ 0x46 ∷ 0xa8 ∷ 0xed ∷ 0x98 ∷ 0xd1 ∷ [])
    (codes "C0096B0TX12S0100KS1800604B120F9292800000BFB9B689CB567E66FC3FEE5AD5F52161FC6545B9D60989015D02155C")
unfolding bits_of bits_of_bytes select substitute_by box_entry number_of cipher_function xor_bits
    round_key c_half d_half rotate shifts_through key_schedule after_rounds through_rounds block_of_bits xor_blocks
    chain_after cbc_mac hex_of AreOptionalBlocks hex_number
known_block-C = record {
  front = codes "C0096B0TX12S0100KS1800604B120F9292800000";
  sealed = codes "BFB9B689CB567E66FC3FEE5AD5F52161FC6545B9D60989015D02155C";
  parts = record {
    context = StorageOrExchange;
    optional = serial_block;
    is_header = (refl, refl);
    short = lit< tt;
    few = lit< tt;
    are_optional = (serial_block, ([], (refl, (refl, inl (lit< tt, refl)), refl)));
    whole = refl;
    is_front = refl;
    is_block = refl;
  };
  is_protection = refl;
  is_clear = refl;
  is_sealed = record {
    blocks = data_C;
    encrypted = bytes 0xbfb9b689cb567e66 ∷ bytes 0xfc3fee5ad5f52161 ∷ bytes 0xfc6545b9d6098901 ∷ [];
    mac = 0x5d ∷ 0x02 ∷ 0x15 ∷ 0x5c ∷ [];
    is_clear = refl;
    are_bytes = are_bytes (joined data_C) refl;
    is_mac = refl;
    chained = three-by_cbc _ _ _ _ _ _ _ _ refl refl refl refl refl refl;
    is_text = refl;
  };
}
