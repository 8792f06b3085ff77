-- The ways through an insert: the model's refusals in their order, each leaving everything as it was; and the entry put in.
-- By the definitions at the facts that the tests tell, and by the laws of the changes.
use mathlib.Core.Path.{◌≡◌, sym, ap, ◌∙◌}
use Prim.Native.Nat.{ℕ, ◌+◌, ◌≤◌, ◌<◌}
use native.Mathlib.Omega.{arith}
use mathlib.Core.Bool.{true, false}
use mathlib.Core.List.{List}
use lib.ListN.{length}
use borrow.Author.Tests.{le-leb, lt-leb}
use Rattle.memory.specs.Bytes.{Small, overlay}
use Rattle.memory.proofs.Order.{need-true, need-false}
use Rattle.integers.specs.Answers.{done, no_state, too_long, over_limit, no_room}
use Rattle.wire.specs.Name.{Name}
use Rattle.instructions.specs.Instruction.{insert, instruction_wire}
use Rattle.model.specs.Table.{size, put, vacant_from}
use Rattle.model.specs.Outcome.{Outcome, refuse, finish, instruction, output_bytes}
use Rattle.model.specs.Encoder.{sent_index, Encoder, sent_size, with_sent, new_sent, choose_name, insert_at, insert_entry}
use Rattle.state.specs.Layout.{limit_of, held_of, count_of}
use Rattle.state.specs.EncoderState.{encoder_of, overlay_encoder}
use Rattle.state.specs.Forms.{forms_encoder}
use Rattle.table_search.specs.Search as memory
use Rattle.table.specs.Changes.{inserted}
use Rattle.table_laws.proofs.Room.{room-claim}
use Rattle.horizons.specs.Horizons.{horizons_opened}
use Rattle.reply.specs.Result.{refused, stepped}
use Rattle.encoder.specs.Calls.{insert_call}
use Rattle.encoder_insert.specs.Steps.{Fitting, fitting_insert}
use Rattle.encoder.proofs.Standing.{changes, limit-low, stays}

-- ---- the model's ways, in order
module _ (E : Encoder) (name value : List ℕ) (room : ℕ) where
  name-long : 255 < length name → insert_entry E name value room ≡ refuse E too_long
  unfolding insert_entry
  name-long h = need-false _ _ _ (lt-leb _ _ h)

  module _ (n : length name ≤ 255) where
    value-long : 2047 < length value → insert_entry E name value room ≡ refuse E too_long
    unfolding insert_entry
    value-long h = need-true _ _ _ (le-leb _ _ n) ∙ need-false _ _ _ (lt-leb _ _ h)

    module _ (v : length value ≤ 2047) where
      limit-passed : E.limit < sent_size E.entries + (length name + length value + 32) → insert_entry E name value room ≡ refuse E over_limit
      unfolding insert_entry size
      limit-passed h = need-true _ _ _ (le-leb _ _ n) ∙ need-true _ _ _ (le-leb _ _ v) ∙ need-false _ _ _ (lt-leb _ _ h)

      limit-kept : sent_size E.entries + (length name + length value + 32) ≤ E.limit
          → insert_entry E name value room ≡ insert_at E (vacant_from sent_index 62 E.entries) name value room
      unfolding insert_entry size
      limit-kept h = need-true _ _ _ (le-leb _ _ n) ∙ need-true _ _ _ (le-leb _ _ v) ∙ need-true _ _ _ (le-leb _ _ h)

  module _ (i : ℕ) (chosen : Name) (e : chosen ≡ choose_name E.entries name) where
    abbrev wire : List ℕ
    wire = instruction_wire (insert i chosen value)

    said : length wire ≡ length (instruction_wire (insert i (choose_name E.entries name) value))
    said = ap (λ (c : Name). length (instruction_wire (insert i c value))) e

    at-short : room < length wire → insert_at E i name value room ≡ refuse E no_room
    unfolding insert_at
    at-short h = need-false _ _ _ (lt-leb _ _ (rw said at h))

    at_room : length wire ≤ room
        → insert_at E i name value room
        ≡ finish (with_sent E (put sent_index (new_sent i name value) E.entries)) (length wire) i (instruction (insert i chosen value))
    unfolding insert_at
    at_room h =
        need-true _ _ _ (le-leb _ _ (rw said at h))
        ∙ ap (λ (c : Name). finish (with_sent E (put sent_index (new_sent i name value) E.entries)) (length (instruction_wire (insert i c value))) i
        (instruction (insert i c value))) (sym e)

-- ---- the call's ways
module _ (m name value out : List ℕ) where
  pub insert-no-state : forms_encoder m ≡ false → insert_call m name value out ≡ refused m out no_state
  unfolding insert_call
  insert-no-state e = need-false _ _ _ e

module _ (m : List ℕ) (small : Small m) (forms : forms_encoder m ≡ true) (name value out : List ℕ) where
  abbrev E : Encoder
  E = encoder_of m

  steps : (o : Outcome Encoder) → insert_entry E name value (length out) ≡ o → insert_call m name value out ≡ stepped overlay_encoder m out o
  unfolding insert_call
  steps o e = need-true _ _ _ forms ∙ ap (λ (o : Outcome Encoder). stepped overlay_encoder m out o) e

  refuses : (number : ℕ) → insert_entry E name value (length out) ≡ refuse E number → insert_call m name value out ≡ refused m out number
  refuses number e = steps (refuse E number) e ∙ stays m small forms out number

  pub insert-name-long : 255 < length name → insert_call m name value out ≡ refused m out too_long
  insert-name-long h = refuses too_long (name-long E name value (length out) h)

  module _ (n : length name ≤ 255) where
    pub insert-value-long : 2047 < length value → insert_call m name value out ≡ refused m out too_long
    insert-value-long h = refuses too_long (value-long E name value (length out) n h)

    module _ (v : length value ≤ 2047) where
      pub insert-over : limit_of m < held_of m + (length name + length value + 32) → insert_call m name value out ≡ refused m out over_limit
      insert-over h =
          refuses over_limit
          (limit-passed E name value (length out) n v (omega (arith, (changes m small forms).limit, (changes m small forms).held)))

  pub insert-fitting : Fitting m name value → insert_call m name value out ≡ fitting_insert m name value out
  insert-fitting f =
      steps (insert_at E (vacant_from sent_index 62 E.entries) name value (length out))
      (limit-kept E name value (length out) f.name_short f.value_short
      (omega (arith, (changes m small forms).limit, (changes m small forms).held, f.limit)))

  -- the table has room for it, and a vacant place, since the limit leaves one
  place-left : held_of m + (length name + length value + 32) ≤ 4096 → count_of m < 128
  place-left = room-claim.encoder m forms (length name + length value)

  pub fitting-held : Fitting m name value → held_of m + (length name + length value + 32) ≤ 4096
  fitting-held f = omega (arith, f.limit, limit-low m small forms)

  pub fitting-place : Fitting m name value → memory.vacant_row m (count_of m) 0 < 128
  fitting-place f =
      let few = place-left (fitting-held f) in
      omega (arith, ((changes m small forms).opening (length name) (length value) (fitting-held f) few f.name_short).below)

  -- ---- an entry that fits, its index i at the lowest vacant place, its name as chosen
  module _ (place i : ℕ) (p : place ≡ memory.vacant_row m (count_of m) 0) (q : i ≡ 62 + place)
      (chosen : Name) (e : chosen ≡ choose_name E.entries name) (n : ℕ) (s : n ≡ length (instruction_wire (insert i chosen value))) where
    vacant : vacant_from sent_index 62 E.entries ≡ i
    vacant = omega (arith, (changes m small forms).vacant)

    fits-at : fitting_insert m name value out ≡ stepped overlay_encoder m out (insert_at E i name value (length out))
    fits-at = ap (λ (j : ℕ). stepped overlay_encoder m out (insert_at E j name value (length out))) vacant

    pub fitting-short : length out < n → fitting_insert m name value out ≡ refused m out no_room
    fitting-short h =
        fits-at
        ∙ ap (λ (o : Outcome Encoder). stepped overlay_encoder m out o) (at-short E name value (length out) i chosen e (omega arith))
        ∙ stays m small forms out no_room

    -- the memory that the entry put in leaves
    entered : held_of m + (length name + length value + 32) ≤ 4096 → length name ≤ 255
        → overlay_encoder (with_sent E (put sent_index (new_sent i name value) E.entries)) m ≡ horizons_opened (inserted m place i name value) place (count_of m)
    entered h short =
        ap (λ (j : ℕ). overlay_encoder (with_sent E (put sent_index (new_sent j name value) E.entries)) m) (sym vacant)
        ∙ sym ((changes m small forms).insert name value h (place-left h) short)
        ∙ ap (λ (j : ℕ). horizons_opened (inserted m j (62 + j) name value) j (count_of m)) (sym p)
        ∙ ap (λ (j : ℕ). horizons_opened (inserted m place j name value) place (count_of m)) (sym q)

    pub fitting-done : n ≤ length out → held_of m + (length name + length value + 32) ≤ 4096 → length name ≤ 255
        → fitting_insert m name value out
        ≡ record {
          answer = done n i;
          memory = horizons_opened (inserted m place i name value) place (count_of m);
          output = overlay out 0 (instruction_wire (insert i chosen value));
        }
    unfolding stepped output_bytes
    fitting-done h k short =
        fits-at
        ∙ ap (λ (o : Outcome Encoder). stepped overlay_encoder m out o) (at_room E name value (length out) i chosen e (omega arith))
        ∙ (λ t. record {
          answer = done (sym s t) i;
          memory = entered k short t;
          output = overlay out 0 (instruction_wire (insert i chosen value));
        })
