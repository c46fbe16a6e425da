-- Octets for which there is room.
use Rattle.std.proofs.Common.{◌≡◌, ◌≤◌, ◌+◌, ◌-◌, ◌++◌, ◌^◌, min, length, is_ok, true, ap, sym, arith}
use Rattle.lmtp_data.specs.Readings.{data_limit}
use Rattle.lmtp_data.proofs.Stepping.{if-ok, pushed-view}
use Rattle.lmtp_data.proofs.reader.DataReader.push.Goals as goal

pub returns : goal.returns
returns c =
    let len = c.as_slice-kept.ensures.len in
    let items = ap length c.as_slice-kept.ensures.value in
    let front = c.split_at.ensures.front_len in
    let least = c.min.ensures in
    let few = c.self.invariant.0 in
    let room = c.self.invariant.1 in
    let full : is_ok c.extend_from_slice.result ≡ true = c.extend_from_slice.ensures.succeeds (omega (arith, len, front, least, few, room)) in
    let sum = c.saturating_add-self-inside.ensures in
    pushed-view c.args.self.now c.self.inside.text.items c.self.inside.count c.self.inside.place c.args.place c.args.octets.now c.split_at.result.0.now c.extend_from_slice.new.self.items c.min.result c.saturating_add-self-inside.result
    c.self.view_is (omega (arith, len, items, few)) (if-ok (is_ok c.extend_from_slice.result) _ _ _ full c.extend_from_slice.ensures.items) c.split_at.ensures.front (omega (arith, len, items, least, few)) (omega (arith, sum))
