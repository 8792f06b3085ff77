use native.Mathlib.Omega.{arith}
use Rattle.stream_lists.specs.StreamList.{list_of}
use Rattle.deletes.proofs.Stored.{append-stored}
use Rattle.deletes.proofs.Listing.{list_counted}
use Rattle.deletes.proofs.kept.append_delete.Goals as goal

pub returns : goal.returns
returns c =
    let a = c.args in
    let few = list_counted a.s.now a.nontrailer c.requires.in_list.0 in
    append-stored a.m.now a.place
    (record { index = a.index.value; nontrailer = list_of a.s.now a.nontrailer; trailer = list_of a.s.now a.trailer }) _ _ _
    c.delete_count-n.ensures c.nontrailer_list.ensures c.trailer_list.ensures (omega (arith, few, c.requires.in_list.0.few)) _ _ _ _ _
    c.put_delete_index.ensures c.put_list.ensures c.put_list-2.ensures c.put_status.ensures c.put_delete_count.ensures
