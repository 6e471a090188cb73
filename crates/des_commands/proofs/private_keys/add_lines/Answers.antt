use Rattle.std.proofs.Common.{◌≡◌, ℕ, ◌+◌, ◌-◌, ◌*◌, List, [], ◌∷◌, ◌++◌, length, take, drop, map, codes, sym, ap, ◌∙◌, append_assoc, append-nil, arith}
use Rattle.std.specs.List.{flat_map, range_with_len}
use Rattle.std.proofs.lemmas.Grind.{flat_map-append}
use Rattle.std.proofs.lemmas.List.{length-drop, take_all, take_min}
use Rattle.std.proofs.lemmas.List.FromFn.{map-range_with_len_more}
use Rattle.des_commands.specs.PrivateKeys.{first_lines}
use Rattle.des_commands.proofs.private_keys.add_lines.Goals as goal

-- one line more
first_lines-more : (text : List ℕ) (count : ℕ)
    → first_lines text (count + 1) ≡ first_lines text count ++ (take 64 (drop (64 * count) text) ++ codes "\n")
first_lines-more text count =
    let line : ℕ → List ℕ = λ number. take 64 (drop (64 * number) text) in
    let ended : List ℕ → List ℕ = λ line. line ++ codes "\n" in
    ap (flat_map ended) (map-range_with_len_more line 0 count count (omega arith))
    ∙ flat_map-append ended (map line (range_with_len 0 count)) (line count ∷ [])
    ∙ ap (λ (last : List ℕ). first_lines text count ++ last) (append-nil (line count ++ codes "\n"))

pub lines-preserved : goal.lines-preserved
lines-preserved c =
    let text : List ℕ = c.args.encoded.now in
    let start : List ℕ = c.args.text.now.items in
    let before : List ℕ = first_lines text c.lines.number in
    let rest : List ℕ = drop (64 * c.lines.number) text in
    let whole : take (length text - 64 * c.lines.number) rest ≡ rest =
    take_all (length text - 64 * c.lines.number) rest (omega (arith, length-drop (64 * c.lines.number) text)) in
    let line : take c.min.result rest ≡ take 64 rest =
    ap (λ (n : ℕ). take n rest) (rw whole at c.min.ensures) ∙ take_min 64 rest in
    let added = rw (whole, line, c.lines.invariant) at c.in_ok-extend_from_slice.ensures.items in
    c.in_ok-push.ensures.items ∙ ap (λ (new : List ℕ). new ++ codes "\n") added
    ∙ append_assoc (start ++ before) (take 64 rest) (codes "\n")
    ∙ append_assoc start before (take 64 rest ++ codes "\n")
    ∙ ap (λ (lines : List ℕ). start ++ lines) (sym (first_lines-more text c.lines.number))
