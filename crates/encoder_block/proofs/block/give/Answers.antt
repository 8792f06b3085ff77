use mathlib.Core.Path.{sym, ◌∙◌}
use native.Mathlib.Omega.{arith}
use Rattle.parts.specs.Turn.{part_in}
use Rattle.encoder_block.proofs.Giving.{tells-kept, Ready, ready-by, its-turn, long-memory, fitting, done-answer, still-forms, still-room, still-passed}
use Rattle.encoder_block.proofs.Giving.{refers-length, gives}
use Rattle.encoder_block.proofs.block.give.Goals as goal

pub room_answer-requires : goal.room_answer-requires
room_answer-requires c =
    let a = c.args in
    let p = c.requires in
    let ready : Ready a.m.now a.stream.value (part_in a.part) a.s.now = ready-by (λ k. grind arith) p.m_value p.reads_well in
    record { m_value = (p.m_value.0, (its-turn ready).0); reads_well = p.reads_well }

pub returns-in-Err : goal.returns-in-Err
returns-in-Err c =
    let a = c.args in
    let p = c.requires in
    let ready : Ready a.m.now a.stream.value (part_in a.part) a.s.now = ready-by (λ k. grind arith) p.m_value p.reads_well in
    let kept = c.room_answer.ensures in
    let refused = fitting ready a.out.now _ (sym c.in-Err.is ∙ kept.value) in
    let all = tells-kept _ _ _ _ refused _ c.because.ensures _ _ kept.m_unchanged kept.out_unchanged in
    record { result_value = all.0; m_after = all.1.0; out_after = all.1.1 }

pub write_list-n-requires : goal.write_list-n-requires
write_list-n-requires c =
    let a = c.args in
    let p = c.requires in
    let ready : Ready a.m.now a.stream.value (part_in a.part) a.s.now = ready-by (λ k. grind arith) p.m_value p.reads_well in
    let kept = c.room_answer.ensures in
    let room = fitting ready a.out.now _ (sym (done-answer _ c.in_default.not-Err) ∙ kept.value) in
    record {
      m_value = (still-forms ready a.out.now _ _ kept.m_unchanged kept.out_unchanged, (its-turn ready).0);
      reads_well = p.reads_well;
      s_len_bound = λ e. still-room ready a.out.now _ _ kept.m_unchanged kept.out_unchanged room;
    }

pub close_after-requires : goal.close_after-requires
close_after-requires c =
    let a = c.args in
    let p = c.requires in
    let ready : Ready a.m.now a.stream.value (part_in a.part) a.s.now = ready-by (λ k. grind arith) p.m_value p.reads_well in
    let kept = c.room_answer.ensures in
    let room = fitting ready a.out.now _ (sym (done-answer _ c.in_default.not-Err) ∙ kept.value) in
    let w = c.write_list-n.ensures in
    let passed =
    still-passed ready a.out.now _ _ kept.m_unchanged kept.out_unchanged room.0 _ _ _ (w.value, (w.m_after, w.out_after)) in
    let same = refers-length ready a.out.now room.0 room.1 _ passed.1.0 in
    ((its-turn ready).0, omega (arith, long-memory ready, same))

pub overflow_cast-n : goal.overflow_cast-n
overflow_cast-n c =
    let a = c.args in
    let p = c.requires in
    let ready : Ready a.m.now a.stream.value (part_in a.part) a.s.now = ready-by (λ k. grind arith) p.m_value p.reads_well in
    let kept = c.room_answer.ensures in
    let room = fitting ready a.out.now _ (sym (done-answer _ c.in_default.not-Err) ∙ kept.value) in
    let w = c.write_list-n.ensures in
    let passed =
    still-passed ready a.out.now _ _ kept.m_unchanged kept.out_unchanged room.0 _ _ _ (w.value, (w.m_after, w.out_after)) in
    omega (arith, passed.0, room.0)

pub returns : goal.returns
returns c =
    let a = c.args in
    let p = c.requires in
    let ready : Ready a.m.now a.stream.value (part_in a.part) a.s.now = ready-by (λ k. grind arith) p.m_value p.reads_well in
    let kept = c.room_answer.ensures in
    let room = fitting ready a.out.now _ (sym (done-answer _ c.in_default.not-Err) ∙ kept.value) in
    let w = c.write_list-n.ensures in
    let passed =
    still-passed ready a.out.now _ _ kept.m_unchanged kept.out_unchanged room.0 _ _ _ (w.value, (w.m_after, w.out_after)) in
    let all = gives ready a.out.now room.0 room.1 _ passed.1.0 _ passed.0 _ _ _ c.done.ensures c.close_after.ensures passed.1.1 in
    record { result_value = all.0; m_after = all.1.0; out_after = all.1.1 }
