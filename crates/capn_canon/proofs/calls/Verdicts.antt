-- The verdict on a message of one segment is also the verdict on the bytes of that segment. (For `bare_verdict.rt`.)
use Rattle.std.proofs.Common.{◌≡◌, ◌≢◌, ◌↔◌, inl, inr, ℕ, Bool, IsTrue, List, [], ◌∷◌, Option, Some, None}
use Rattle.std.proofs.Common.{Result, Ok, Err, IfOk, IfErr, MatchOption, MatchResult, refl, ap, sym, subst, ◌∙◌}
use Rattle.capn_words.specs.Message.{IsBare}
use Rattle.capn_value.specs.Tree.{Tree}
use Rattle.capn_value.specs.FirstCap.{first_cap}
use Rattle.capn_walk.specs.Accepted.{root}
use Rattle.capn_walk.specs.Limits.{Bounds}
use Rattle.capn_walk.specs.declared.walk_answer.Stopped.{Stopped}
use Rattle.capn_walk.proofs.shared.Unique.{unique}
use Rattle.capn_layout.specs.Layout.{canon}
use Rattle.capn_canon.specs.declared.form.Form.TheVariants as forms
use Rattle.capn_canon.specs.declared.refusal.Refusal.{Refusal}
use Rattle.capn_canon.specs.declared.refusal.Refusal.TheVariants as refusals
use Rattle.capn_canon.specs.declared.surveyed_bare.SurveyedBare.{SurveyedBare}
use Rattle.capn_canon.specs.Answered.{IsRefusedReading, IsRun}
use Rattle.capn_canon.specs.BareVerdict.{IsBareSurvey, SaysCanonical}
use Rattle.capn_canon.specs.Denotes.{Denotes}
use Rattle.capn_canon.specs.Reads.{Reads}
use Rattle.capn_canon.specs.Refusal.{IsPaidWithin, IsRefused}
use Rattle.capn_canon.specs.RefusalOf.{IsOfWalk}
use Rattle.capn_canon.specs.inner.BareTold.{IsBareTold, IsVerdict, IsVerdictOf}
use Rattle.capn_canon.proofs.calls.Answered.{denoted_here}
use Rattle.capn_canon.proofs.calls.ReadInput.{no-walk, refused-in}
use Rattle.capn_canon.proofs.shared.NotRefused.{not_refused, refused_message}

-- ---- the verdict of a survey

module _ (ws : List ℕ) (limits : Bounds) where
  of_survey : (c : SurveyedBare) (o : Option ℕ) (r : Result Bool Refusal) → c.capability ≡ o
      → IsBareSurvey ws limits c
      → MatchOption o (r ≡ Ok c.is_canonical) (λ k. r ≡ Err (refusals.Capability k)) → IsVerdict ws limits r
  of_survey c None r e s is =
      let free = sym s.capability ∙ e in
      subst (λ (x : Result Bool Refusal). IsVerdict ws limits x) (sym is) (record {
        found = (s.value, s.is, free, ((λ t. (s.answer.0 t).1), (λ q. s.answer.1 (free, q))));
        refused = tt;
        no_memory = tt;
        bounded = tt;
      })
  of_survey c (Some k) r e s is =
      subst (λ (x : Result Bool Refusal). IsVerdict ws limits x) (sym is) (record {
        found = tt;
        refused = (s.value, s.is, sym s.capability ∙ e);
        no_memory = (λ x. absurd cc);
        bounded = tt;
      })

  of_stop : (s : Stopped) (e : Refusal) → IsOfWalk s e → IsBareTold (ws ∷ []) limits (Err s)
      → IsVerdict ws limits (Err e)
  of_stop s e (inl (memory, is)) h = absurd (h.no_memory memory)
  of_stop s e (inr (other, is)) h =
      subst (λ (x : Refusal). IsVerdict ws limits (Err x)) (sym is) (record {
        found = tt;
        refused = elim h.refused [ inl memory ↦ absurd (other memory) | inr k ↦ k ];
        no_memory = (λ x. absurd cc);
        bounded = h.bounded;
      })

  pub verdict : (told : Result SurveyedBare Stopped) (r : Result Bool Refusal) → IsBareTold (ws ∷ []) limits told
      → IsVerdictOf told r → IsVerdict ws limits r
  verdict (Ok c) r h is = of_survey c c.capability r refl h.found is
  verdict (Err s) (Ok says) h is = absurd is
  verdict (Err s) (Err e) h is = of_stop s e is h

-- ---- the verdict on bytes

-- The clauses of `are_canonical` on its result `r`.
pub record AreVerdicts (bs : List ℕ) (limits : Bounds) (r : Result Bool Refusal) : Type 0 where
  pub found : IfOk r (λ yes. SaysCanonical bs limits yes)
  pub only : (v : Tree) → Denotes forms.Bare bs limits v → first_cap v ≡ None
      → MatchResult r (λ yes. IsTrue yes ↔ (canon v ≡ bs)) (λ e. e ≡ refusals.Memory)
  pub refused : IfErr r (λ e. IsRefused forms.Bare bs limits e)
  pub no_memory : IfErr r (λ e. e ≢ refusals.Memory)
  pub bounded : IfErr r (λ e. IsPaidWithin limits.budget e)

module _ (bs : List ℕ) (limits : Bounds) where
  not_asked : (e : Refusal) → IsRefusedReading forms.Bare bs limits e → e ≢ refusals.Memory
  not_asked refusals.Memory h = absurd h
  not_asked (refusals.Bare e) h = λ x. absurd cc
  not_asked (refusals.Packed e) h = absurd h
  not_asked (refusals.Frame e) h = absurd h
  not_asked (refusals.Trailing at) h = absurd h
  not_asked (refusals.Walk s) h = absurd h
  not_asked (refusals.Capability k) h = absurd h

  unread : (e : Refusal) → IsRefusedReading forms.Bare bs limits e → AreVerdicts bs limits (Err e)
  unread e h =
      let n = no-walk forms.Bare bs limits e h in
      let is = refused-in forms.Bare bs limits e n.0 in
      record {
        found = tt;
        only = (λ v d free. not_refused forms.Bare bs limits v e d free is);
        refused = is;
        no_memory = not_asked e h;
        bounded = n.1;
      }

  read_as : (ws : List ℕ) (is : IsBare bs ws) (r : Result Bool Refusal)
      → IsVerdict ws limits r → AreVerdicts bs limits r
  read_as ws is (Ok says) h =
      let v = h.found.0 in
      let reads : Reads forms.Bare bs limits.message_words (ws ∷ []) = (ws, is, refl) in
      let exact : IsTrue says ↔ (canon v ≡ bs) =
      ((λ t. h.found.3.0 t ∙ sym is.same), (λ q. h.found.3.1 (q ∙ is.same))) in
      record {
        found = record {
          value = v;
          is = record { message = ws ∷ []; reads = reads; value = h.found.1 };
          free = h.found.2;
          answer = exact;
        };
        only = (λ w d free.
            let here = denoted_here forms.Bare bs limits (ws ∷ []) w reads d in
            let same = ap canon (unique (ws ∷ []) w v root here.is h.found.1.is) in
            ((λ t. same ∙ exact.0 t), (λ q. exact.1 (sym same ∙ q))));
        refused = tt;
        no_memory = tt;
        bounded = tt;
      }
  read_as ws is (Err e) h =
      let refused = refused_message forms.Bare bs limits (ws ∷ []) e (ws, is, refl) h.refused in
      record {
        found = tt;
        only = (λ v d free. not_refused forms.Bare bs limits v e d free refused);
        refused = refused;
        no_memory = h.no_memory;
        bounded = h.bounded;
      }

  -- `r` is a result of `are_canonical` for `bs` if a run that tests the message of `bs` gives `r`.
  pub verdicts : {S : Type 0} (r : Result Bool Refusal) (old new : S)
      → IsRun forms.Bare bs limits (λ task m l x after. (ws : List ℕ) → m ≡ ws ∷ [] → IsVerdict ws l x) old r new
      → AreVerdicts bs limits r
  verdicts r old new (inl (m, (ws, is, e), h)) = read_as ws is r (h ws e)
  verdicts r old new (inr (e, is, h, same)) =
      subst (λ (x : Result Bool Refusal). AreVerdicts bs limits x) (sym is) (unread e h)
