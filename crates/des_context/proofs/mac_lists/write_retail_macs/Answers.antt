-- A group more.
use Rattle.std.proofs.Common.{◌≡◌, ℕ, ◌+◌, ◌-◌, ◌∙◌, arith}
use Rattle.std.proofs.lemmas.List.{length-map, take-map, drop-map}
use Rattle.des_fast.proofs.ZippedParts.{answers-more}
use Rattle.des_mac.specs.ManyMessages.{texts}
use Rattle.des_context.specs.MacAlgorithms.{mac_by}
use Rattle.des_context.proofs.mac_lists.write_retail_macs.Goals as goal

pub groups-preserved : goal.groups-preserved
groups-preserved g c =
    let m : ℕ = c.groups.from in
    let count : ℕ = c.min.result in
    let n : ℕ = m + count - m in
    let as_messages = length-map c.args.messages.now (λ message. message.now) ∙ c.if-messages-tags.false in
    let next : m + n ≡ m + count = omega arith in record {
      within = omega (arith, c.min.ensures);
      made =
          rw next at (answers-more (mac_by 3 c.args.padding) m n c.args.keys.now (texts c.args.messages.now)
          c.args.tags.now c.groups.tags c.write_retail_group.new.tags c.if-keys-tags.false as_messages
          (omega (arith, c.groups.invariant.within)) c.groups.invariant.made
          (λ _. simp (take-map, drop-map) c.write_retail_group.ensures));
    }
