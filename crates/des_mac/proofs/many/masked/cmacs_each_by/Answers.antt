-- A group more.
use Rattle.std.proofs.Common.{◌≡◌, ℕ, ◌+◌, ◌-◌, ◌++◌, List, length, map, take, drop, ap, ap₂, sym, ◌∙◌, arith}
use Rattle.std.specs.Simd.Lanes.{zip2}
use Rattle.std.proofs.lemmas.List.{length-map, take-map, drop-map}
use Rattle.des_mac.specs.Cmac.{cmac}
use Rattle.des_mac.specs.ManyMessages.{texts}
use Rattle.des_fast.proofs.ZippedParts.{answers-more}
use Rattle.des_mac.proofs.many.masked.cmacs_each_by.Goals as goal

-- what a part of a list is mapped to
mapped-part : {A : Type 0} (f : A → List ℕ) (m n : ℕ) (xs : List A)
    → map f (take n (drop m xs)) ≡ take n (drop m (map f xs))
mapped-part f m n xs = sym (ap (take n) (drop-map f m xs) ∙ take-map f n (drop m xs))

pub groups-preserved : goal.groups-preserved
groups-preserved g c =
    let m : ℕ = c.groups.from in
    let count : ℕ = c.min.result in
    let n : ℕ = m + count - m in
    let bytes = g.C.Key.KeyBytes.bytes_of in
    let f : List ℕ → List ℕ → List ℕ = λ key text. cmac (g.C.KeyedCipher.encryption key) text in
    let keys : List (List ℕ) = map bytes c.args.keys.now in
    let messages : List (List ℕ) = texts c.args.messages.now in
    let old : List (List ℕ) = c.args.tags.now in
    let as_keys : length keys ≡ length old = length-map c.args.keys.now bytes ∙ c.if-keys-tags.false in
    let as_messages : length messages ≡ length old =
    length-map c.args.messages.now (λ message. message.now) ∙ sym c.if-tags-messages.false in
    let next : m + n ≡ m + count = omega arith in record {
      within = omega (arith, c.min.ensures);
      made =
          answers-more f m n keys messages old c.groups.tags c.write_group.new.tags as_keys as_messages
          (omega (arith, c.groups.invariant.within)) c.groups.invariant.made
          (λ _. c.write_group.ensures
          ∙ ap₂ (zip2 f) (mapped-part bytes m n c.args.keys.now)
          (mapped-part (λ message. message.now) m n c.args.messages.now))
          ∙ ap (λ (k : ℕ). zip2 f (take k keys) (take k messages) ++ drop k old) next;
    }
