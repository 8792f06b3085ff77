-- The name and the representation that the model chooses are the lowest ones by what happened.
-- A search of the static table tells the lowest static index; a search of the table tells the lowest entry that serves, which what happened tells too.
use mathlib.Core.Path.{◌≡◌, refl, sym, ap, subst, ◌∙◌}
use mathlib.Core.Logic.{inl, inr}
use Prim.Native.Nat.{ℕ}
use native.Mathlib.Omega.{arith}
use mathlib.Core.Bool.{Bool, true, false, not, ◌&&◌}
use mathlib.Core.Option.{Option, none, some}
use mathlib.Core.List.{List, [], ◌∷◌, map}
use lib.Dec.{eqb}
use borrow.Author.Tests.{eqb-true, eqb-false}
use Rattle.memory.specs.Compare.{same}
use Rattle.memory.proofs.Order.{split, pick-both}
use Rattle.memory.proofs.Sameness.{same-eq, eq-same}
use Rattle.wire.specs.Name.{indexed, literal}
use Rattle.statics.specs.Table.{Entry}
use Rattle.static_search.specs.Search.{find_name, find_both}
use Rattle.static_search.proofs.Finding.{name-found, name-nothing, both_found, both-nothing}
use Rattle.static_search.proofs.Finding as finding
use Rattle.fields.specs.Form.{Field, FineField, AllFine}
use Rattle.blocks.specs.Representation as representation
use Rattle.blocks.specs.Meaning.{holds}
use Rattle.model.specs.Table.{Ascending, look, first}
use Rattle.model.specs.Parts.{Delete}
use Rattle.model.specs.Decoder.{is_some}
use Rattle.model.specs.Encoder.{Sent, sent_index, serves, serves_both, dynamic_name, static_name, choose_name, dynamic_field, static_field, choose}
use Rattle.model.specs.Happened.{Happened, after, deletion_by, empty}
use Rattle.model_laws.proofs.Tables.{nope, first-sound, first-none, first-lowest}
use Rattle.model_laws.proofs.SentHappened.{held_slot, under_deletion, ToldAfter}
use Rattle.link.specs.Histories.{Lowest, ByLowest, Static, Serving, Named, Equal, NamedBy, LiteralFor, WrittenFor, AllWrittenFor}
use Rattle.std.specs.Prelude.{Some, None}
use Rattle.integers.specs.declared.number.TableIndex.{TableIndex}
use Rattle.std.specs.Prelude as prelude

-- ---- the static table
static-lowest : (P : Entry → Type 0) (Q : ℕ → Type 0) → ((k : ℕ) → Static P k → Q k) → (i : ℕ) → finding.Lowest Q 1 62 i → Static P i → Lowest (Static P) i
static-lowest P Q back i l there = record {
  there = there;
  first = λ k s. split k i (λ h. absurd (l.first k s.0 h (back k s))) (λ h. h);
}

-- ---- tests of an entry
no-delete : (o : Option Delete) → is_some o ≡ false → o ≡ none
no-delete none e = refl
no-delete (some d) e = nope (cc)

and-back : (a b : Bool) → (not a && b) ≡ true → (a ≡ false) × (b ≡ true)
and-back true b e = nope (cc)
and-back false b e = (refl, e)

and-forth : (a b : Bool) → a ≡ false → b ≡ true → (not a && b) ≡ true
and-forth true b e f = nope (cc)
and-forth false b e f = f

both-back : (a b : Bool) → (a && b) ≡ true → (a ≡ true) × (b ≡ true)
both-back true b e = (refl, e)
both-back false b e = nope (cc)

both-forth : (a b : Bool) → a ≡ true → b ≡ true → (a && b) ≡ true
both-forth true b e f = f
both-forth false b e f = nope (cc)

serves-back : (name : List ℕ) (e : Sent) → serves name e ≡ true → (e.deleted ≡ false) × Named name e.entry
unfolding serves
serves-back name e t = let b = and-back e.deleted (same e.entry.name name) t in (b.0, same-eq e.entry.name name b.1)

serves-forth : (name : List ℕ) (e : Sent) → e.deleted ≡ false → Named name e.entry → serves name e ≡ true
unfolding serves
serves-forth name e d n = and-forth e.deleted (same e.entry.name name) d (eq-same e.entry.name name n)

equal-back : (name value : List ℕ) (e : Sent) → serves_both name value e ≡ true → (e.deleted ≡ false) × Equal name value e.entry
unfolding serves_both
equal-back name value e t =
    let b = both-back (serves name e) (same e.entry.value value) t in
    let s = serves-back name e b.0 in
    (s.0, (s.1, same-eq e.entry.value value b.1))

equal-forth : (name value : List ℕ) (e : Sent) → e.deleted ≡ false → Equal name value e.entry → serves_both name value e ≡ true
unfolding serves_both
equal-forth name value e d n =
    both-forth (serves name e) (same e.entry.value value) (serves-forth name e d n.0) (eq-same e.entry.value value n.1)

module _ (hs : List Happened) (l : List Sent) (order : Ascending sent_index 62 l) (T : ToldAfter empty (λ i. false) (λ i. none) hs l) where
  -- ---- an entry that is not under deletion, in the table and by what happened
  serving-back : (P : Entry → Type 0) (i : ℕ) → Serving hs P i → (e : Sent) × (look sent_index i l ≡ some e) × (e.deleted ≡ false) × P e.entry
  unfolding held_slot under_deletion
  serving-back P i (e, held, free, p) = go (look sent_index i l) refl
    where
      go : (o : Option Sent) → look sent_index i l ≡ o → (x : Sent) × (look sent_index i l ≡ some x) × (x.deleted ≡ false) × P x.entry
      go none q = let z : held_slot none ≡ holds e = sym (ap held_slot q) ∙ sym (T.entries i) ∙ held in nope (cc)
      go (some x) q =
          let z : held_slot (some x) ≡ holds e = sym (ap held_slot q) ∙ sym (T.entries i) ∙ held in
          let y : x.entry ≡ e = cc in
          (x, q, sym (ap under_deletion q) ∙ sym (T.deletion i) ∙ ap is_some free, subst P (sym y) p)

  serving-forth : (P : Entry → Type 0) (i : ℕ) (e : Sent) → look sent_index i l ≡ some e → (e.deleted ≡ false) × P e.entry → Serving hs P i
  unfolding held_slot under_deletion
  serving-forth P i e f p =
      (e.entry, T.entries i ∙ ap held_slot f, no-delete (after (deletion_by i) none hs) (T.deletion i ∙ ap under_deletion f ∙ p.0), p.1)

  module _ (P : Entry → Type 0) (test : Sent → Bool) (back : (e : Sent) → test e ≡ true → (e.deleted ≡ false) × P e.entry)
      (forth : (e : Sent) → e.deleted ≡ false → P e.entry → test e ≡ true) where
    served : (e : Sent) → first test l ≡ some e → Lowest (Serving hs P) e.index
    served e q =
        let s = first-sound sent_index test 62 l e order q in
        record {
          there = serving-forth P e.index e s.0 (back e s.1);
          first = λ k v.
              let b = serving-back P k v in first-lowest sent_index test 62 l e k b.0 order q b.1 (forth b.0 b.2 b.3);
        }

    unserved : first test l ≡ none → (i : ℕ) → Serving hs P i → ⊥
    unserved q i v = let b = serving-back P i v in first-none sent_index test l i b.0 q b.1 (forth b.0 b.2 b.3)

  -- ---- the name
  module _ (name : List ℕ) where
    dynamic-named : (o : Option Sent) → first (serves name) l ≡ o
        → ByLowest (Serving hs (Named name)) indexed (λ n. n ≡ literal name) (dynamic_name name o)
    unfolding dynamic_name
    dynamic-named none q = inr (unserved (Named name) (serves name) (serves-back name) (serves-forth name) q, refl)
    dynamic-named (some e) q = inl (e.index, served (Named name) (serves name) (serves-back name) (serves-forth name) e q, refl)

    static-named : (o : prelude.Option TableIndex) → find_name name ≡ o → NamedBy hs name (static_name l name o)
    unfolding static_name
    static-named (Some j) q =
        let f = name-found name 61 1 j q in
        inl (j.value, static-lowest (Named name) (finding.HasName name) (λ k s. s.2) j.value f (f.low, omega (arith, f.high), f.holds), refl)
    static-named None q =
        inr (λ i s. name-nothing name 61 1 q i s.0 (omega (arith, s.1)) s.2, dynamic-named (first (serves name) l) refl)

    pub named_by : NamedBy hs name (choose_name l name)
    unfolding choose_name
    named_by = static-named (find_name name) refl

  -- ---- a field
  module _ (f : Field) where
    abbrev both : Sent → Bool
    both = serves_both f.name f.value

    abbrev Same : Entry → Type 0
    Same = Equal f.name f.value

    literal-for : (flag : ℕ) → flag ≡ f.flag → LiteralFor hs f (representation.literal flag (choose_name l f.name) f.value)
    literal-for flag e =
        (choose_name l f.name, named_by f.name, ap (λ (k : ℕ). representation.literal k (choose_name l f.name) f.value) e)

    dynamic-written : f.flag ≡ 0 → (o : Option Sent) → first both l ≡ o
        → ByLowest (Serving hs Same) representation.indexed (LiteralFor hs f) (dynamic_field l f o)
    unfolding dynamic_field
    dynamic-written z none q =
        inr (unserved Same both (equal-back f.name f.value) (equal-forth f.name f.value) q, literal-for 0 (sym z))
    dynamic-written z (some e) q =
        inl (e.index, served Same both (equal-back f.name f.value) (equal-forth f.name f.value) e q, refl)

    static-written : f.flag ≡ 0 → (o : prelude.Option TableIndex) → find_both f.name f.value ≡ o
        → ByLowest (Static Same) representation.indexed (ByLowest (Serving hs Same) representation.indexed (LiteralFor hs f)) (static_field l f o)
    unfolding static_field
    static-written z (Some j) q =
        let g = both_found f.name f.value 61 1 j q in
        let there : Static Same j.value = (g.low, omega (arith, g.high), g.holds) in
        inl (j.value, static-lowest Same (finding.HasBoth f.name f.value) (λ k s. s.2) j.value g there, refl)
    static-written z None q =
        inr (
          λ i s. both-nothing f.name f.value 61 1 q i s.0 (omega (arith, s.1)) s.2,
          dynamic-written z (first both l) refl,
        )

    written-for : FineField f → WrittenFor hs f (choose l f)
    unfolding choose
    written-for fine =
        pick-both (WrittenFor hs f) (eqb f.flag 1) _ _
        (λ t. let e = eqb-true f.flag 1 t in inl (e, literal-for 1 (sym e)))
        (λ t. let n = eqb-false f.flag 1 t in
        let z : f.flag ≡ 0 = omega (arith, fine.flag_bit, n) in
        inr (z, static-written z (find_both f.name f.value) refl))

  pub all-written : (fs : List Field) → AllFine fs → AllWrittenFor hs fs (map (choose l) fs)
  all-written [] a = tt
  all-written (f ∷ fs) a = (written-for f a.0, all-written fs a.1)
