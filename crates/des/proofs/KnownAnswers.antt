-- The definitions, computed at values from outside: the steps of the worked example of J. Orlin Grabbe, The DES
-- Algorithm Illustrated, and whole encryptions.
use Rattle.std.proofs.Common.{◌≡◌, ℕ, List, [], ◌∷◌, ◌++◌, Bool, map, refl, subst, take}
use Rattle.std.specs.List.{All}
use Rattle.std.proofs.lemmas.List.Elements.{All-nil, All-cons}
use Rattle.des.specs.Bits.{bits_of, bits_of_word, bits_of_bytes, number_of, zeros, select, xor_bits}
use Rattle.des.specs.Tables.{initial_permutation, permuted_choice_1, permuted_choice_2, expansion, permutation, final_permutation}
use Rattle.des.specs.CipherFunction.{box_entry, substitute_by, substitute, cipher_function}
use Rattle.des.specs.SwapForms.{delta_swapped}
use Rattle.des.specs.KeySchedule.{c_half, d_half, rotate, shifts_through, round_key, key_schedule}
use Rattle.des.specs.Enciphering.{IsDes}
use Rattle.des.specs.Rounds.{after_rounds, through_rounds}
use Rattle.des.proofs.OneAnswer.{IsDes-through_rounds}

-- ---- steps

-- the steps of the worked example, each with what it gives, as a word with zeros after it; and an exchange of bits by
-- hand, which takes the last bit of a word one place up, and from one end of the word to the other
abbrev steps : List (List Bool × ℕ)
steps =
    (bits_of_bytes (0x13 ∷ 0x34 ∷ 0x57 ∷ 0x79 ∷ 0x9b ∷ 0xbc ∷ 0xdf ∷ 0xf1 ∷ []), 0x133457799bbcdff1) ∷
    (select initial_permutation (bits_of_word 0x0123456789abcdef), 0xcc00ccfff0aaf0aa) ∷
    (select final_permutation (bits_of_word 0x0a4cd99543423234), 0x85e813540f0ab405) ∷
    (select permuted_choice_1 (bits_of_word 0x133457799bbcdff1) ++ zeros 8, 0xf0ccaaf556678f00) ∷
    (select permuted_choice_2 (take 56 (bits_of_word 0xe19955faaccf1e00)) ++ zeros 16, 0x1b02effc70720000) ∷
    (round_key (bits_of_word 0x133457799bbcdff1) 1 ++ zeros 16, 0x1b02effc70720000) ∷
    (round_key (bits_of_word 0x133457799bbcdff1) 16 ++ zeros 16, 0xcb3d8b0e17f50000) ∷
    (select expansion (take 32 (bits_of_word 0xf0aaf0aa00000000)) ++ zeros 16, 0x7a15557a15550000) ∷
    (substitute (take 48 (bits_of_word 0x6117ba8665270000)) ++ zeros 32, 0x5c82b59700000000) ∷
    (select permutation (take 32 (bits_of_word 0x5c82b59700000000)) ++ zeros 32, 0x234aa9bb00000000) ∷
    (cipher_function (bits_of 32 0xf0aaf0aa) (bits_of 48 0x1b02effc7072) ++ zeros 32, 0x234aa9bb00000000) ∷
    (bits_of_word (delta_swapped 0x0000000000000001 1 0x0000000000000001), 0x0000000000000002) ∷
    (bits_of_word (delta_swapped 0x0000000000000001 63 0x0000000000000001), 0x8000000000000000) ∷ []

each_step : map (λ step. step.0) steps ≡ map (λ step. bits_of_word step.1) steps
unfolding bits_of bits_of_bytes select substitute_by box_entry number_of cipher_function xor_bits
    round_key c_half d_half rotate shifts_through delta_swapped
each_step = refl

-- ---- whole encryptions

-- a key, a plaintext and a ciphertext, as words
abbrev Answer : Type 0
Answer = ℕ × ℕ × ℕ

-- DES under the key takes the plaintext to the ciphertext
IsAnswered : Answer → Type 0
IsAnswered answer = IsDes (bits_of_word answer.0) (bits_of_word answer.1) (bits_of_word answer.2)

-- what the rounds make of the plaintext: `unfolding computed` opens what it is computed by
computed : Answer → List Bool
unfolding bits_of select substitute_by box_entry number_of cipher_function xor_bits
    round_key c_half d_half rotate shifts_through key_schedule after_rounds through_rounds
computed answer = through_rounds (key_schedule (bits_of_word answer.0)) (bits_of_word answer.1)

-- if that is the ciphertext, DES takes the plaintext to it
IsAnswered-computed : (answers : List Answer) → map computed answers ≡ map (λ answer. bits_of_word answer.2) answers
    → All IsAnswered answers
unfolding IsAnswered computed
IsAnswered-computed [] same = All-nil IsAnswered
IsAnswered-computed (answer ∷ answers) same =
    let P : List Bool → Type 0 = IsDes (bits_of_word answer.0) (bits_of_word answer.1) in
    let heads : computed answer ≡ bits_of_word answer.2 = cc in
    let tails : map computed answers ≡ map (λ other. bits_of_word other.2) answers = cc in
    All-cons IsAnswered answer answers
    (subst P heads (IsDes-through_rounds (bits_of_word answer.0) (bits_of_word answer.1) refl refl))
    (IsAnswered-computed answers tails)

-- the worked example, and the nineteen answers of the substitution table test of NBS Special Publication 500-20, which
-- reach all 512 entries of the boxes
abbrev answers : List Answer
answers =
    (0x133457799bbcdff1, 0x0123456789abcdef, 0x85e813540f0ab405) ∷
    (0x7ca110454a1a6e57, 0x01a1d6d039776742, 0x690f5b0d9a26939b) ∷
    (0x0131d9619dc1376e, 0x5cd54ca83def57da, 0x7a389d10354bd271) ∷
    (0x07a1133e4a0b2686, 0x0248d43806f67172, 0x868ebb51cab4599a) ∷
    (0x3849674c2602319e, 0x51454b582ddf440a, 0x7178876e01f19b2a) ∷
    (0x04b915ba43feb5b6, 0x42fd443059577fa2, 0xaf37fb421f8c4095) ∷
    (0x0113b970fd34f2ce, 0x059b5e0851cf143a, 0x86a560f10ec6d85b) ∷
    (0x0170f175468fb5e6, 0x0756d8e0774761d2, 0x0cd3da020021dc09) ∷
    (0x43297fad38e373fe, 0x762514b829bf486a, 0xea676b2cb7db2b7a) ∷
    (0x07a7137045da2a16, 0x3bdd119049372802, 0xdfd64a815caf1a0f) ∷
    (0x04689104c2fd3b2f, 0x26955f6835af609a, 0x5c513c9c4886c088) ∷
    (0x37d06bb516cb7546, 0x164d5e404f275232, 0x0a2aeeae3ff4ab77) ∷
    (0x1f08260d1ac2465e, 0x6b056e18759f5cca, 0xef1bf03e5dfa575a) ∷
    (0x584023641aba6176, 0x004bd6ef09176062, 0x88bf0db6d70dee56) ∷
    (0x025816164629b007, 0x480d39006ee762f2, 0xa1f9915541020b56) ∷
    (0x49793ebc79b3258f, 0x437540c8698f3cfa, 0x6fbf1cafcffd0556) ∷
    (0x4fb05e1515ab73a7, 0x072d43a077075292, 0x2f22e49bab7ca1ac) ∷
    (0x49e95d6d4ca229bf, 0x02fe55778117f12a, 0x5a6b612cc26cce4a) ∷
    (0x018310dc409b26d6, 0x1d9d5c5018f728c2, 0x5f4c038ed12b2e41) ∷
    (0x1c587f1c13924fef, 0x305532286d6f295a, 0x63fac0d034d9f793) ∷ []

each_answered : All IsAnswered answers
unfolding computed bits_of
each_answered = IsAnswered-computed answers refl
