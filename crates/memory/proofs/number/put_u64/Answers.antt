use Rattle.memory.proofs.Numbers.{put-join}
use Rattle.memory.proofs.number.put_u64.Goals as goal

pub returns : goal.returns
returns c =
    let a = c.args in
    put-join a.m.now _ _ a.at 4 4 a.v c.put_u32.ensures c.put_u32-2.ensures
