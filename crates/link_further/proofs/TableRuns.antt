-- The events of one table are those of its calls alone, made at ends that were started as each end's start of this table left them.
-- By induction over the calls. While an end is on the table, its memory is that of the table's own run; before its start of the table and after the start of
-- another it makes no call of the table, so what memory it has then is of no account.
use mathlib.Core.Path.{◌≡◌, refl, sym, ap, ap₂, ◌∙◌, subst}
use Prim.Native.Nat.{ℕ}
use mathlib.Core.Option.{Option, none, some, some-injective, none-ne-some}
use mathlib.Core.List.Memᴰ
use mathlib.Core.List.{List, [], ◌∷◌, ◌++◌, Memᴰ}
use lib.Seq.{append_snoc}
use lib.Dec.{eqb}
use borrow.Author.Tests.{eqb-true, eqb-false}
use Rattle.memory.specs.Choice.{pick}
use Rattle.memory.proofs.Order.{either}
use Rattle.reply.specs.Result.{Result}
use Rattle.link.specs.Calls.{encoder_result, decoder_result}
use Rattle.link.specs.Claims.{LinkCall, Ends, Event, turn, events}
use Rattle.link_further.specs.Anew.{
  TableCall,
  encoder_start,
  decoder_start,
  TableEvent,
  encoder_started,
  decoder_started,
  memory_after,
  table_turn,
  table_events,
  events_of,
  started,
  encoder_table,
  decoder_table,
  TableRules,
}
use Rattle.link_further.proofs.TableStarts.{Start, encoder_starts, decoder_starts, Side, encoder_side, decoder_side, left, opening, opening-next}

-- ---- one end along the calls: the table that it is on and the events so far; its memory M, the memory E of the own run of the table t, and its starts that
-- are to come. On the table both memories are the same, and the end has started it; until it has, E is what the start that counts will leave.
module _ (x : Side) (t : ℕ) (z : Start) where
  -- it has started the table u
  abbrev Seen : ℕ → List TableEvent → Type 0
  Seen u ps = (a : ℕ) × (q : Result) × Memᴰ (x.tells u a q) ps × (q.answer.number ≡ 0)

  pub record Follows (now : Option ℕ) (ps : List TableEvent) (M E : List ℕ) (ss : List Start) : Type 0 where
    pub current : now ≡ some t → E ≡ M
    pub begun : now ≡ some t → Seen t ps
    pub ahead : (Seen t ps → ⊥) → E ≡ (left x (opening x t z ss)).memory

  seen_more : (ps : List TableEvent) (e : TableEvent) → Seen t ps → Seen t (ps ++ (e ∷ []))
  seen_more ps e s = (s.0, s.1, Memᴰ.append_left (e ∷ []) s.2, s.3)

  pub follows-first : (E : List ℕ) (ss : List Start) (M : List ℕ) → E ≡ (left x (opening x t z ss)).memory → Follows none [] M E ss
  follows-first E ss M e = record { current = λ p. absurd (none-ne-some t p); begun = λ p. absurd (none-ne-some t p); ahead = λ n. e }

  module _ (now : Option ℕ) (ps : List TableEvent) (M E : List ℕ) where
    -- nothing that moves this end
    pub follows-kept : (e : TableEvent) (ss : List Start) → Follows now ps M E ss → Follows now (ps ++ (e ∷ [])) M E ss
    follows-kept e ss F = record {
      current = F.current;
      begun = λ p. seen_more ps e (F.begun p);
      ahead = λ n. F.ahead (λ s. n (seen_more ps e s));
    }

    -- a call of this table, and one of another
    pub follows-own : (e : TableEvent) (ss : List Start) (f : List ℕ → List ℕ) → now ≡ some t → Follows now ps M E ss
        → Follows now (ps ++ (e ∷ [])) (f M) (f E) ss
    follows-own e ss f h F = record {
      current = λ p. ap f (F.current p);
      begun = λ p. seen_more ps e (F.begun p);
      ahead = λ n. absurd (n (seen_more ps e (F.begun h)));
    }

    pub follows-other : (e : TableEvent) (ss : List Start) (M' : List ℕ) (u : ℕ) → now ≡ some u → (u ≡ t → ⊥) → Follows now ps M E ss
        → Follows now (ps ++ (e ∷ [])) M' E ss
    follows-other e ss M' u h d F = record {
      current = λ p. absurd (d (some-injective u t (sym h ∙ p)));
      begun = λ p. seen_more ps e (F.begun p);
      ahead = λ n. F.ahead (λ s. n (seen_more ps e s));
    }

    -- a start: of this table, of another, or refused
    module _ (s : Start) (ss : List Start) (new : (left x s).answer.number ≡ 0 → Seen s.table ps → ⊥) (F : Follows now ps M E (s ∷ ss)) where
      abbrev told : TableEvent
      told = x.tells s.table s.limit (left x s)

      passed : (s.table ≡ t → (left x s).answer.number ≡ 0 → ⊥) → (Seen t (ps ++ (told ∷ [])) → ⊥) → E ≡ (left x (opening x t z ss)).memory
      passed d n =
          F.ahead (λ h. n (seen_more ps told h))
          ∙ opening-next x t z (λ o. (left x o).memory ≡ (left x (opening x t z ss)).memory) s ss (λ e k. absurd (d e k)) (λ k. refl)

      started-own : s.table ≡ t → (left x s).answer.number ≡ 0 → Follows (some s.table) (ps ++ (told ∷ [])) (left x s).memory E ss
      started-own e d =
          let seen : Seen t (ps ++ (told ∷ [])) = (
            s.limit,
            left x s,
            Memᴰ.append_right ps (Memᴰ.head (ap (λ (u : ℕ). x.tells u s.limit (left x s)) (sym e))),
            d,
          ) in
          record {
            current = λ p.
                F.ahead (λ h. new d (subst (λ (u : ℕ). Seen u ps) (sym e) h))
                ∙ opening-next x t z (λ o. (left x o).memory ≡ (left x s).memory) s ss (λ k l. refl) (λ n. absurd (n e d));
            begun = λ p. seen;
            ahead = λ n. absurd (n seen);
          }

      started-other : (s.table ≡ t → ⊥) → Follows (some s.table) (ps ++ (told ∷ [])) (left x s).memory E ss
      started-other d = record {
        current = λ p. absurd (d (some-injective s.table t p));
        begun = λ p. absurd (d (some-injective s.table t p));
        ahead = passed (λ e k. d e);
      }

      not-started : ((left x s).answer.number ≡ 0 → ⊥) → Follows now (ps ++ (told ∷ [])) M E ss
      not-started d = record { current = F.current; begun = λ p. seen_more ps told (F.begun p); ahead = passed (λ e k. d k) }

      pub follows-start : Follows (started s.table (left x s) now) (ps ++ (told ∷ [])) (memory_after M (left x s)) E ss
      follows-start =
          either (eqb (left x s).answer.number 0)
          (λ d. rw d (either (eqb s.table t) (λ e. started-own (eqb-true s.table t e) (eqb-true _ 0 d)) (λ e. started-other (eqb-false s.table t e))))
          (λ d. rw d (not-started (eqb-false _ 0 d)))

-- ---- what an end's table is after one more event
encoder-then : (before : Option ℕ) (ps : List TableEvent) (e : TableEvent)
    → encoder_table before (ps ++ (e ∷ [])) ≡ encoder_table (encoder_table before ps) (e ∷ [])
unfolding encoder_table
encoder-then before [] e = refl
encoder-then before (encoder_started t limit r ∷ ps) e = encoder-then (started t r before) ps e
encoder-then before (decoder_started t limit r ∷ ps) e = encoder-then before ps e
encoder-then before (TableEvent.of_table t d ∷ ps) e = encoder-then before ps e

decoder-then : (before : Option ℕ) (ps : List TableEvent) (e : TableEvent)
    → decoder_table before (ps ++ (e ∷ [])) ≡ decoder_table (decoder_table before ps) (e ∷ [])
unfolding decoder_table
decoder-then before [] e = refl
decoder-then before (encoder_started t limit r ∷ ps) e = decoder-then before ps e
decoder-then before (decoder_started t limit r ∷ ps) e = decoder-then (started t r before) ps e
decoder-then before (TableEvent.of_table t d ∷ ps) e = decoder-then before ps e

-- ---- the calls that belong to the table t, in their order
unfoldable pub calls_of : ℕ → List TableCall → List LinkCall
calls_of t [] = []
calls_of t (encoder_start u limit m ∷ cs) = calls_of t cs
calls_of t (decoder_start u limit m ∷ cs) = calls_of t cs
calls_of t (TableCall.of_table u c ∷ cs) = pick (eqb u t) (c ∷ calls_of t cs) (calls_of t cs)

-- ---- both ends along the calls: the events so far, the memory of both ends and that of the table's own run, and the calls that are left
module _ (t : ℕ) (y z : Start) (es : List TableEvent) (R : TableRules es) where
  pub record Along (ps : List TableEvent) (S T : Ends) (cs : List TableCall) : Type 0 where
    pub whole : es ≡ ps ++ table_events S cs
    pub encoder : Follows encoder_side t y (encoder_table none ps) ps S.encoder T.encoder (encoder_starts cs)
    pub decoder : Follows decoder_side t z (decoder_table none ps) ps S.decoder T.decoder (decoder_starts cs)

  along : (ps : List TableEvent) (e : TableEvent) (S T : Ends) (cs : List TableCall) → es ≡ ps ++ (e ∷ table_events S cs)
      → Follows encoder_side t y (encoder_table (encoder_table none ps) (e ∷ [])) (ps ++ (e ∷ [])) S.encoder T.encoder (encoder_starts cs)
      → Follows decoder_side t z (decoder_table (decoder_table none ps) (e ∷ [])) (ps ++ (e ∷ [])) S.decoder T.decoder (decoder_starts cs)
      → Along (ps ++ (e ∷ [])) S T cs
  along ps e S T cs q F G = record {
    whole = q ∙ sym (append_snoc ps e (table_events S cs));
    encoder = subst (λ o. Follows encoder_side t y o (ps ++ (e ∷ [])) S.encoder T.encoder (encoder_starts cs)) (sym (encoder-then none ps e)) F;
    decoder = subst (λ o. Follows decoder_side t z o (ps ++ (e ∷ [])) S.decoder T.decoder (decoder_starts cs)) (sym (decoder-then none ps e)) G;
  }

  module _ (ps : List TableEvent) (S T : Ends) (u : ℕ) (cs : List TableCall) where
    abbrev Next : LinkCall → Ends → Type 0
    Next c = λ X. Along (ps ++ (TableEvent.of_table u (turn S c).event ∷ [])) (turn S c).ends X cs

    -- a call of this table gives what it gives in the table's own run
    own-call : (c : LinkCall) → u ≡ t → Along ps S T (TableCall.of_table u c ∷ cs) → ((turn S c).event ≡ (turn T c).event) × Next c (turn T c).ends
    unfolding table_events table_turn turn encoder_starts decoder_starts encoder_table decoder_table
    own-call (LinkCall.at_encoder c) e A =
        let h : encoder_table none ps ≡ some t = R.encoder_current ps _ u c _ A.whole ∙ ap {B = Option ℕ} some e in (
          ap (λ (m : List ℕ). Event.by_encoder c (encoder_result m c)) (sym (A.encoder.current h)),
          along ps _ _ _ cs A.whole (follows-own encoder_side t y _ ps _ _ _ _ (λ m. (encoder_result m c).memory) h A.encoder)
              (follows-kept decoder_side t z _ ps _ _ _ _ A.decoder),
        )
    own-call (LinkCall.at_decoder n c) e A =
        let h : decoder_table none ps ≡ some t = R.decoder_current ps _ u n c _ A.whole ∙ ap {B = Option ℕ} some e in (
          ap (λ (m : List ℕ). Event.by_decoder n c (decoder_result m c)) (sym (A.decoder.current h)),
          along ps _ _ _ cs A.whole (follows-kept encoder_side t y _ ps _ _ _ _ A.encoder)
              (follows-own decoder_side t z _ ps _ _ _ _ (λ m. (decoder_result m c).memory) h A.decoder),
        )
    own-call (LinkCall.reset s) e A = (
      refl,
      along ps _ _ _ cs A.whole (follows-kept encoder_side t y _ ps _ _ _ _ A.encoder) (follows-kept decoder_side t z _ ps _ _ _ _ A.decoder),
    )

    -- and a call of another table changes nothing of it
    other-call : (c : LinkCall) → (u ≡ t → ⊥) → Along ps S T (TableCall.of_table u c ∷ cs) → Next c T
    unfolding table_events table_turn turn encoder_starts decoder_starts encoder_table decoder_table
    other-call (LinkCall.at_encoder c) d A =
        along ps _ _ T cs A.whole (follows-other encoder_side t y _ ps _ _ _ _ _ u (R.encoder_current ps _ u c _ A.whole) d A.encoder)
        (follows-kept decoder_side t z _ ps _ _ _ _ A.decoder)
    other-call (LinkCall.at_decoder n c) d A =
        along ps _ _ T cs A.whole (follows-kept encoder_side t y _ ps _ _ _ _ A.encoder)
        (follows-other decoder_side t z _ ps _ _ _ _ _ u (R.decoder_current ps _ u n c _ A.whole) d A.decoder)
    other-call (LinkCall.reset s) d A =
        along ps _ _ T cs A.whole (follows-kept encoder_side t y _ ps _ _ _ _ A.encoder) (follows-kept decoder_side t z _ ps _ _ _ _ A.decoder)

    same-call : (c : LinkCall) → Along ps S T (TableCall.of_table u c ∷ cs)
        → ((X : Ends) → Next c X → events_of t (table_events (turn S c).ends cs) ≡ events X (calls_of t cs))
        → events_of t (table_events S (TableCall.of_table u c ∷ cs)) ≡ events T (calls_of t (TableCall.of_table u c ∷ cs))
    unfolding table_events table_turn events_of calls_of events
    same-call c A rest =
        either (eqb u t)
        (λ e. let k = own-call c (eqb-true u t e) A in rw e (ap₂ (λ (a : Event) (l : List Event). a ∷ l) k.0 (rest (turn T c).ends k.1)))
        (λ e. rw e (rest T (other-call c (eqb-false u t e) A)))

  pub same-events : (cs : List TableCall) (ps : List TableEvent) (S T : Ends) → Along ps S T cs → events_of t (table_events S cs) ≡ events T (calls_of t cs)
  unfolding table_events table_turn events_of calls_of events encoder_starts decoder_starts encoder_table decoder_table
  same-events [] ps S T A = refl
  same-events (encoder_start u limit m ∷ cs) ps S T A =
      same-events cs _ _ T
      (along ps _ _ T cs A.whole
      (follows-start encoder_side t y _ ps _ _ (record { table = u; limit = limit; memory = m }) _
      (λ d s. R.encoder_new ps _ u _ _ _ _ A.whole d s.2 s.3) A.encoder)
      (follows-kept decoder_side t z _ ps _ _ _ _ A.decoder))
  same-events (decoder_start u limit m ∷ cs) ps S T A =
      same-events cs _ _ T
      (along ps _ _ T cs A.whole (follows-kept encoder_side t y _ ps _ _ _ _ A.encoder)
      (follows-start decoder_side t z _ ps _ _ (record { table = u; limit = limit; memory = m }) _
      (λ d s. R.decoder_new ps _ u _ _ _ _ A.whole d s.2 s.3) A.decoder))
  same-events (TableCall.of_table u c ∷ cs) ps S T A = same-call ps S T u cs c A (λ X. same-events cs _ _ X)
