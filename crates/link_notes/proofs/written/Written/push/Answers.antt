use Rattle.std.proofs.Common.{rules, ◌≡◌, length}
use Rattle.link_notes.proofs.Pushing.{turned}
use Rattle.link_notes.proofs.written.Written.push.Goals as goal

pub returns : goal.returns
returns c =
    let n : length c.self.inside.blocks ≡ 4 = search rules in
    rw (c.rotate_right.ensures.after, ← c.self.view_is) (turned c.self.inside.blocks c.args.block n)
