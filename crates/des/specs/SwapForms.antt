-- The permutations IP, IP^-1 and PC-1 of the bits of a word, in steps that each exchange bits at
-- one distance: which bits a step exchanges is a mask, with a one at the lower place of each two.
use Rattle.std.specs.Prelude.{ℕ, ◌*◌, ◌/◌, ◌%◌, ◌^◌, List, [], ◌∷◌, bit_and, bit_xor, reverse}
use Rattle.std.specs.List.{fold}

-- the bits of a word under a mask, exchanged with those delta places above them, for a mask where
-- these do not overlap
unfoldable pub delta_swapped : ℕ → ℕ → ℕ → ℕ
delta_swapped word delta mask =
    let differing = bit_and (bit_xor word (word / 2 ^ delta)) mask in
    bit_xor (bit_xor word differing) (differing * 2 ^ delta % 2 ^ 64)

-- a step: its delta and its mask
abbrev pub Step : Type 0
Step = ℕ × ℕ

-- a word after steps, the first of the list first
abbrev pub after_steps : List Step → ℕ → ℕ
after_steps steps word = fold (λ so_far step. delta_swapped so_far step.0 step.1) word steps

-- the steps of IP
abbrev pub initial_swaps : List Step
initial_swaps =
    (9, 0x0055005500550055) ∷
    (18, 0x0000333300003333) ∷
    (36, 0x000000000f0f0f0f) ∷
    (24, 0x00000000ff00ff00) ∷
    (24, 0x000000ff000000ff) ∷ []

-- IP of a word
abbrev pub swap_form_of_ip : ℕ → ℕ
swap_form_of_ip word = after_steps initial_swaps word

-- IP^-1 of a word: the same steps, the last first
abbrev pub swap_form_of_fp : ℕ → ℕ
swap_form_of_fp word = after_steps (reverse initial_swaps) word

-- the steps of PC-1
abbrev pub choice_swaps : List Step
choice_swaps =
    (2, 0x3333000033330000) ∷
    (4, 0x0f0f0f0f00000000) ∷
    (8, 0x009a000a00a200a8) ∷
    (16, 0x00006c6c0000cccc) ∷
    (1, 0x1045500500550550) ∷
    (32, 0x00000000f0f0f5fa) ∷
    (8, 0x00550055006a00aa) ∷
    (2, 0x0000333330000300) ∷ []

-- PC-1 of a word, in its first 56 bits: the steps, then the low eight bits cleared
abbrev pub swap_form_of_pc1 : ℕ → ℕ
swap_form_of_pc1 word = bit_and (after_steps choice_swaps word) 0xffffffffffffff00
