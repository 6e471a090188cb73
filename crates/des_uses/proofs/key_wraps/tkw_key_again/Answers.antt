use Rattle.std.proofs.Common.{◌≡◌, ℕ, suc, ◌<◌, List, [], ◌∷◌, ◌++◌, length, get_or, subst, sym, arith}
use Rattle.std.specs.List.{All, flat_map}
use Rattle.std.proofs.lemmas.List.{drop_at, take_at}
use Rattle.std.proofs.lemmas.List.Elements.{All-cons, All-drop, All-nil, All-take}
use Rattle.des.specs.Blocks.{AreBytes}
use Rattle.des_key_wraps.specs.Tkw.{IsSemiblock}
use Rattle.des_key_wraps.proofs.TkwSteps.{TkwUnder-graph}
use Rattle.des_uses.proofs.key_wraps.tkw_key_again.Goals as goal

-- each number of a semiblock stands in the list of all bytes
semiblocks : (words : List (List ℕ)) → ((i : ℕ) → i < length words → length (get_or words i []) ≡ 4)
    → AreBytes (flat_map (λ word. word) words) → All IsSemiblock words
semiblocks [] long bytes = All-nil IsSemiblock
semiblocks (word ∷ words) long bytes =
    let rest : List ℕ = flat_map (λ word. word) words in
    let four : length word ≡ 4 = long 0 (omega arith) in
    All-cons IsSemiblock word words
    (four, subst AreBytes (take_at word rest 4 four) (All-take (λ byte. byte < 256) 4 (word ++ rest) bytes))
    (semiblocks words (λ i below. long (suc i) (omega (arith, below)))
    (subst AreBytes (drop_at word rest 4 four) (All-drop (λ byte. byte < 256) 4 (word ++ rest) bytes)))

pub unwrap-requires-2 : goal.unwrap-requires-2
unwrap-requires-2 g c =
    (c.unwrap.ensures.accepted c.args.key.now
    (semiblocks c.args.key.now c.told-key (rw c.as_flattened.ensures.value at c.are_bytes.ensures))
    (TkwUnder-graph (λ x y. (λ takes. takes, λ takes. takes)) c.args.key.now c.wrap.new.wrapped (sym c.wrap.ensures))).0

pub returns-clause-wraps : goal.returns-clause-wraps
returns-clause-wraps g c =
    TkwUnder-graph (g.met.C.Relating.encrypts_by_relation c.in_ok-cipher.cipher c.args.protection.now c.in_ok-cipher.ensures.made)
    c.args.key.now c.wrap.new.wrapped (sym c.wrap.ensures)

pub returns-clause-same : goal.returns-clause-same
returns-clause-same g c =
    (c.unwrap.ensures.accepted c.args.key.now
    (semiblocks c.args.key.now c.told-key (rw c.as_flattened.ensures.value at c.are_bytes.ensures))
    (TkwUnder-graph (λ x y. (λ takes. takes, λ takes. takes)) c.args.key.now c.wrap.new.wrapped (sym c.wrap.ensures))).1
