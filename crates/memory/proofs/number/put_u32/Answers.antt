use Rattle.memory.proofs.Numbers.{put-join}
use Rattle.memory.proofs.number.put_u32.Goals as goal

pub returns : goal.returns
returns c =
    let a = c.args in
    put-join a.m.now _ _ a.at 2 2 a.v c.put_u16.ensures c.put_u16-2.ensures
