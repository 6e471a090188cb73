-- Some blocks more.
use Rattle.std.proofs.Common.{◌≡◌, ℕ, ◌+◌, ◌-◌, ◌*◌, ◌/◌, ◌++◌, ◌≤◌, List, [], length, take, drop, refl, ap, ap₂, sym, ◌∙◌, arith, take-add}
use Rattle.std.specs.Simd.{first_chunks}
use Rattle.std.proofs.lemmas.List.{length-drop, length-take-le, take_all}
use Rattle.std.proofs.lemmas.List.Concat.{flat_map-append}
use Rattle.std.proofs.lemmas.Slice.{drop-put_mid, take-put_mid}
use Rattle.des_columns.specs.Forms.{mode_after}
use Rattle.des_columns.specs.declared.form.BlockMode.{BlockMode}
use Rattle.des_columns.proofs.DecryptedBlocks.{chunks-at, drop-further, mode_after-append}
use Rattle.des_columns.proofs.EncryptedBlocks.{AreEncrypted-append, AreEncrypted-none, mode_after-none}
use Rattle.des_columns.proofs.JoinedBlocks.{joined_chunks}
use Rattle.des_columns.proofs.Pieces.{length-first_chunks}
use Rattle.des_columns.proofs.writing.Writer.encipher.Goals as goal

pub parts-init : goal.parts-init
parts-init g c = record {
  within = omega arith;
  done = (
    [],
    mode_after-none c.args.self.now.mode,
    refl,
    λ key made. AreEncrypted-none (g.C.Relating.relation key) c.args.self.now.mode,
  );
  rest = refl;
}

pub parts-preserved : goal.parts-preserved
parts-preserved g c =
    let m : ℕ = c.parts.from in
    let count : ℕ = c.min-count.result in
    let bytes : List ℕ = c.args.bytes.now in
    let total : ℕ = length bytes / 8 in
    let all : List (List ℕ) = first_chunks 8 total bytes in
    let size : ℕ = (m + count) * 8 - m * 8 in
    let is : size ≡ count * 8 = omega arith in
    let within : m + count ≤ total = omega (arith, c.min-count.ensures, c.parts.invariant.within) in
    let part : List ℕ = take size (drop (m * 8) c.parts.bytes) in
    let long : length part ≡ size =
    length-take-le size (drop (m * 8) c.parts.bytes)
    (omega (arith, length-drop (m * 8) c.parts.bytes, c.parts.auto.bytes, within, is)) in
    let before : List (List ℕ) = take m all in
    let more : List (List ℕ) = take count (drop m all) in
    let mode : BlockMode = c.args.self.now.mode in
    let blocks : c.as_chunks.result.0.now ≡ more =
    c.as_chunks.ensures.front
    ∙ chunks-at m count total size bytes part within is (ap (take size) c.parts.invariant.rest) long in
    let done : List (List ℕ) = c.parts.invariant.done.0 in
    let answers : List (List ℕ) = c.encrypt-mode.new.blocks in
    let new : List ℕ = c.copy_from_slice-in-parts.new.self in
    let new_long : length new ≡ size = c.copy_from_slice-in-parts.auto.self ∙ long in
    let inside : m * 8 ≤ length c.parts.bytes = omega (arith, within, c.parts.auto.bytes) in record {
      within = within;
      done = (
        done ++ answers,
        c.encrypt-mode.ensures.mode
            ∙ ap (λ (by : BlockMode). mode_after by answers) c.parts.invariant.done.1
            ∙ mode_after-append mode done answers,
        take-put_mid (m * 8) size c.parts.bytes new ((m + count) * 8) (omega (arith, new_long, is)) inside
            ∙ ap₂ ◌++◌ c.parts.invariant.done.2 (c.copy_from_slice-in-parts.ensures.after ∙ c.as_flattened.ensures.value)
            ∙ sym (flat_map-append (λ block. block) done answers),
        λ key made.
            rw (take-add m count all) (AreEncrypted-append (g.C.Relating.relation key) mode before done more answers
            (c.parts.invariant.done.3 key made)
            (rw (c.parts.invariant.done.1, c.copy_from_slice.ensures.after ∙ blocks) at (c.encrypt-mode.ensures.encrypted key made))),
      );
      rest =
          drop-put_mid (m * 8) size c.parts.bytes new ((m + count) * 8) (omega (arith, is)) inside new_long
          ∙ drop-further ((m + count) * 8) (m * 8) c.parts.bytes bytes (omega arith) c.parts.invariant.rest;
    }

pub returns : goal.returns
returns g c = λ key made.
    let bytes : List ℕ = c.args.bytes.now in
    let all : List (List ℕ) = first_chunks 8 (length bytes / 8) bytes in
    let end : c.parts.from ≡ length bytes / 8 = omega (arith, c.parts.invariant.within, c.parts-test.false, c.parts.auto.bytes) in
    record {
      p_blocks = all;
      q_blocks = c.parts.invariant.done.0;
      of_p = joined_chunks bytes c.requires.whole;
      of_q =
          sym c.parts.invariant.done.2
          ∙ take_all (c.parts.from * 8) c.parts.bytes (omega (arith, end, c.requires.whole, c.parts.auto.bytes));
      encrypted =
          rw (take_all c.parts.from all (omega (arith, end, length-first_chunks 8 (length bytes / 8) bytes))) at
          (c.parts.invariant.done.3 key made);
    }
