use Rattle.std.proofs.Common.{◌≡◌, ◌<◌, ◌+◌, ◌%◌, ℕ, List, false, map, get_or, bit_xor, ap₂, sym, subst, ◌∙◌, arith}
use Rattle.std.proofs.lemmas.List.{length-map, length-set, map-set}
use Rattle.des_fast.specs.RoundKeyChanges.{key_word}
use Rattle.des_fast.proofs.RoundKeysByPlace.{key_word-at, AreChanges-backward}
use Rattle.des_fast.proofs.WrittenElements.{written_below}
use Rattle.des_fast.proofs.rounds.key_changes.Goals as goal
use Rattle.des_fast.proofs.rounds.key_changes.Goals.{then-deciphers, else-deciphers}

pub places-preserved : goal.places-preserved
places-preserved c =
    let word : ℕ → ℕ = key_word false c.args.round_keys.now in
    let step : ℕ = c.if-deciphers.step in
    let words : List ℕ = map (λ change. change.groups) c.places.changes in
    let made : c.xor.result.groups ≡ bit_xor (word c.places.place) (word ((c.places.place + step) % 16)) =
    c.xor.ensures
    ∙ ap₂ bit_xor (key_word-at c.args.round_keys.now c.places.place _ (omega arith))
    (key_word-at c.args.round_keys.now ((c.places.place + step) % 16) _ (omega arith)) in
    record {
      size = length-set c.places.changes c.places.place c.xor.result ∙ c.places.invariant.size;
      so_far = λ n below.
          subst (λ (all : List ℕ). get_or all n 0 ≡ bit_xor (word n) (word ((n + step) % 16)))
          (sym (map-set (λ change. change.groups) c.places.changes c.places.place c.xor.result))
          (written_below (λ (k it : ℕ). it ≡ bit_xor (word k) (word ((k + step) % 16))) words c.places.place
          c.xor.result.groups 0 (rw (length-map c.places.changes (λ change. change.groups)) (omega (arith, c.places.invariant.size)))
          c.places.invariant.so_far made n below);
    }

pub returns : goal.returns
returns c =
    let keys = c.args.round_keys.now in
    let changes = c.places.changes in
    let all : c.places.place ≡ 16 = omega arith in
    let each = λ (step : ℕ) (is : c.if-deciphers.step ≡ step) (n : ℕ) (below : n < 16).
    subst (λ (s : ℕ). key_word false changes n ≡ bit_xor (key_word false keys n) (key_word false keys ((n + s) % 16))) is
    (c.places.invariant.so_far n (omega (arith, all))) in
    elim c.if-deciphers.branch [
      | then-deciphers w ↦
          rw w.if-deciphers.true
          (AreChanges-backward keys changes (omega arith) c.places.invariant.size (each 14 w.step-is))
      | else-deciphers w ↦ rw w.if-deciphers.false (each 2 w.step-is)
    ]
