use Rattle.std.proofs.Common.{refl, arith}
use Rattle.stream_lists.proofs.ListWriting.{list_length, list-stored}
use Rattle.stream_lists.proofs.stream_list.write_list.Goals as goal

pub write-after-requires : goal.write-after-requires
write-after-requires c =
    let l = list_length c.args.horizon c.args.streams.now _ _ c.new-h.ensures refl in
    record { width_bound = (omega arith, omega arith); value_le_largest = omega arith; value_in_bounds = omega arith }

pub write-deltas-requires : goal.write-deltas-requires
write-deltas-requires c =
    let l = list_length c.args.horizon c.args.streams.now _ _ c.new-h.ensures c.new-n.ensures in
    record { width_bound = (omega arith, omega arith); value_le_largest = omega arith; value_in_bounds = omega arith }

pub write_deltas-requires : goal.write_deltas-requires
write_deltas-requires c =
    let l = list_length c.args.horizon c.args.streams.now _ _ c.new-h.ensures c.new-n.ensures in
    record { fits = c.requires.horizon_le_horizon_limit.2; streams_in_bounds = omega arith }

pub returns : goal.returns
returns c =
    let w = c.write-after.ensures in
    let x = c.write-deltas.ensures in
    let y = c.write_deltas.ensures in
    let l = list_length c.args.horizon c.args.streams.now _ _ c.new-h.ensures c.new-n.ensures in
    record {
      value = omega (arith, y.value, x.value, w.value);
      out_after = list-stored c.args.horizon c.args.streams.now _ _ c.new-h.ensures c.new-n.ensures _ _ _ _ c.args.at _ _
          w.value x.value w.out_after x.out_after y.out_after;
    }
