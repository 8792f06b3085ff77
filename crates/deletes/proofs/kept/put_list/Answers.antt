use Rattle.stream_lists.specs.StreamList.{list_of}
use Rattle.deletes.proofs.Stored.{list-stored}
use Rattle.deletes.proofs.Listing.{list_counted}
use Rattle.deletes.proofs.kept.put_list.Goals as goal

pub returns : goal.returns
returns c =
    let a = c.args in
    list-stored (list_of a.s.now a.list) a.list.count (list_counted a.s.now a.list c.requires.in_list) a.m.now _ _ _ _ a.at
    c.put_horizon.ensures c.put_listed_count.ensures (rw c.listed_place-streams.ensures at c.put_streams.ensures)
    (rw c.listed_place-streams.ensures at c.put_zeros.ensures)
