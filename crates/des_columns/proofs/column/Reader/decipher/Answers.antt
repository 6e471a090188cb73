-- Some blocks more.
use Rattle.std.proofs.Common.{◌≡◌, ℕ, ◌+◌, ◌-◌, ◌*◌, ◌/◌, ◌++◌, ◌≤◌, List, length, take, drop, map, ap, ap₂, sym, ◌∙◌, arith, take-add}
use Rattle.std.specs.Simd.{first_chunks}
use Rattle.std.proofs.lemmas.List.{length-drop, length-take-le, take_all}
use Rattle.std.proofs.lemmas.List.Concat.{flat_map-append}
use Rattle.std.proofs.lemmas.Slice.{drop-put_mid, take-put_mid}
use Rattle.des_columns.specs.EncryptedBytes.{joined}
use Rattle.des_columns.specs.Forms.{mode_after, xored}
use Rattle.des_columns.specs.declared.form.BlockMode.{BlockMode}
use Rattle.des_columns.proofs.DecryptedBlocks.{chunks-at, drop-further, mode_after-append, xored-append}
use Rattle.des_columns.proofs.Pieces.{length-first_chunks}
use Rattle.des_columns.proofs.column.Reader.decipher.Goals as goal

pub parts-preserved : goal.parts-preserved
parts-preserved g c =
    let m : ℕ = c.parts.from in
    let count : ℕ = c.min-count.result in
    let bytes : List ℕ = c.args.bytes.now in
    let total : ℕ = length bytes / 8 in
    let all : List (List ℕ) = first_chunks 8 total bytes in
    let size : ℕ = (m + count) * 8 - m * 8 in
    let is : size ≡ count * 8 = omega arith in
    let within : m + count ≤ total = omega (arith, c.min-count.ensures, c.parts.invariant.within) in
    let part : List ℕ = take size (drop (m * 8) c.parts.bytes) in
    let long : length part ≡ size =
    length-take-le size (drop (m * 8) c.parts.bytes)
    (omega (arith, length-drop (m * 8) c.parts.bytes, c.parts.auto.bytes, within, is)) in
    let before : List (List ℕ) = take m all in
    let more : List (List ℕ) = take count (drop m all) in
    let mode : BlockMode = c.args.self.now.mode in
    let f = g.K.ValueKeys.decryption c.args.self.now.keys c.args.value.now in
    let blocks : c.as_chunks.result.0.now ≡ more =
    c.as_chunks.ensures.front
    ∙ chunks-at m count total size bytes part within is (ap (take size) c.parts.invariant.rest) long in
    let front : take (m + count) all ≡ before ++ more = take-add m count all in
    let answers : c.xor_previous-mode.new.answers ≡ xored (mode_after mode before) more (map f more) =
    c.xor_previous-mode.ensures.xored
    ∙ ap₂ (λ (by : BlockMode) (l : List (List ℕ)). xored by c.as_chunks.result.0.now l) c.parts.invariant.mode
    (c.decrypt_part.ensures ∙ ap (map f) c.copy_from_slice.ensures.after)
    ∙ ap (λ (l : List (List ℕ)). xored (mode_after mode before) l (map f l)) blocks in
    let new : List ℕ = c.copy_from_slice-in-parts.new.self in
    let new_long : length new ≡ size = c.copy_from_slice-in-parts.auto.self ∙ long in
    let inside : m * 8 ≤ length c.parts.bytes = omega (arith, within, c.parts.auto.bytes) in record {
      within = within;
      mode =
          c.xor_previous-mode.ensures.mode
          ∙ ap₂ mode_after c.parts.invariant.mode blocks
          ∙ mode_after-append mode before more
          ∙ ap (mode_after mode) (sym front);
      plain =
          take-put_mid (m * 8) size c.parts.bytes new ((m + count) * 8) (omega (arith, new_long, is)) inside
          ∙ ap₂ ◌++◌ c.parts.invariant.plain
          (c.copy_from_slice-in-parts.ensures.after ∙ c.as_flattened.ensures.value ∙ ap joined answers)
          ∙ sym (flat_map-append (λ block. block) (xored mode before (map f before))
          (xored (mode_after mode before) more (map f more)))
          ∙ ap joined (sym (xored-append f mode before more))
          ∙ ap (λ (l : List (List ℕ)). joined (xored mode l (map f l))) (sym front);
      rest =
          drop-put_mid (m * 8) size c.parts.bytes new ((m + count) * 8) (omega (arith, is)) inside new_long
          ∙ drop-further ((m + count) * 8) (m * 8) c.parts.bytes bytes (omega arith) c.parts.invariant.rest;
    }

pub returns : goal.returns
returns g c =
    let bytes : List ℕ = c.args.bytes.now in
    let all : List (List ℕ) = first_chunks 8 (length bytes / 8) bytes in
    let f = g.K.ValueKeys.decryption c.args.self.now.keys c.args.value.now in
    let mode : BlockMode = c.args.self.now.mode in
    let end : c.parts.from ≡ length bytes / 8 = omega (arith, c.parts.invariant.within, c.parts-test.false, c.parts.auto.bytes) in
    sym (take_all (c.parts.from * 8) c.parts.bytes (omega (arith, end, c.requires.whole, c.parts.auto.bytes)))
    ∙ c.parts.invariant.plain
    ∙ ap (λ (l : List (List ℕ)). joined (xored mode l (map f l)))
    (take_all c.parts.from all (omega (arith, end, length-first_chunks 8 (length bytes / 8) bytes)))
