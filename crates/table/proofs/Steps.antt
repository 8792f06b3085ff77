-- A change of the table, put together from its steps. Held size and count are stored first, and nothing is read after them.
use mathlib.Core.Path.{◌≡◌, ap, ◌∙◌}
use Prim.Native.Nat.{ℕ, ◌+◌, ◌-◌}
use mathlib.Core.List.{List}
use lib.ListN.{length}
use Rattle.memory.specs.Bytes.{overlay, moved}
use Rattle.state.specs.Layout.{text_place, held_of, count_of, offset_at, text_length_at}
use Rattle.table.specs.Changes.{text_opened, opened_at, opened, inserted, removed_at, removed}
use Rattle.table_rows.specs.Rows.{row_opened, row_closed, recorded}

-- ---- a row put in: the record, the row, and the text moved up

pub row_in : (m a b c : List ℕ) (place index name value count offset end : ℕ) → a ≡ recorded m (held_of m + (name + value + 32)) (count_of m + 1)
    → b ≡ row_opened a place count index offset name (name + value) → c ≡ text_opened b offset (name + value) (end - offset) → count ≡ count_of m
    → offset ≡ offset_at m place → end ≡ offset_at m (count_of m) → c ≡ opened m place index name value
unfolding opened opened_at
row_in m a b c place index name value count offset end ea eb ec en eo ee =
    ec ∙ ap (λ (l : List ℕ). text_opened l offset (name + value) (end - offset)) (eb
    ∙ ap (λ (l : List ℕ). row_opened l place count index offset name (name + value)) ea)
    ∙ (λ k. text_opened (row_opened (recorded m (held_of m + (name + value + 32)) (count_of m + 1)) place (en k) index (eo k) name (name + value))
    (eo k) (name + value) (ee k - eo k))

-- ---- an entry put in: its row, its name, its value

pub entry_in_lem : (m a b c name value : List ℕ) (place index at next n v : ℕ) → n ≡ length name → v ≡ length value → at ≡ text_place + offset_at m place
    → a ≡ opened m place index n v → b ≡ overlay a at name → next ≡ at + n → c ≡ overlay b next value → c ≡ inserted m place index name value
unfolding inserted
entry_in_lem m a b c name value place index at next n v en ev et ea eb ex ec =
    ec ∙ ap (λ (k : ℕ). overlay b k value) ex ∙ ap (λ (l : List ℕ). overlay l (at + n) value) (eb ∙ ap (λ (l : List ℕ). overlay l at name) ea)
    ∙ (λ k. overlay (overlay (opened m place index (en k) (ev k)) (et k) name) (et k + en k) value)

-- ---- a row taken out: the record, the row, and the text closed up

pub row_out : (m a b c : List ℕ) (place count offset text end : ℕ) → a ≡ recorded m (held_of m - (text + 32)) (count_of m - 1)
    → b ≡ row_closed a place count text → c ≡ moved b (text_place + offset) (text_place + (offset + text)) (end - (offset + text)) → count ≡ count_of m
    → offset ≡ offset_at m place → text ≡ text_length_at m place → end ≡ offset_at m (count_of m) → c ≡ removed m place
unfolding removed removed_at
row_out m a b c place count offset text end ea eb ec en eo et ee =
    ec ∙ ap (λ (l : List ℕ). moved l (text_place + offset) (text_place + (offset + text)) (end - (offset + text))) (eb
    ∙ ap (λ (l : List ℕ). row_closed l place count text) ea)
    ∙ (λ k. moved (row_closed (recorded m (held_of m - (et k + 32)) (count_of m - 1)) place (en k) (et k)) (text_place + eo k) (text_place + (eo k + et k))
    (ee k - (eo k + et k)))
