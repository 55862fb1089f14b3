-- Lemmas for `run` and its callers: the run of a sink, between two chunks and at its end.
use Rattle.std.proofs.Common.{◌≡◌, ◌≢◌, ◌⊎◌, ◌↔◌, inl, inr, ℕ, ◌+◌, ◌^◌, ◌≤◌, List, [], ◌∷◌, ◌++◌, length, take, Bool}
use Rattle.std.proofs.Common.{true, false, Option, Some, None, IfSome, Result, Ok, Err, refl, sym, ap, subst, ◌∙◌}
use Rattle.std.proofs.Common.{arith}
use Rattle.std.proofs.lemmas.List.{append-nil, length-append}
use Rattle.std.specs.Io.KnownBytes.{Appends, Consumes}
use Rattle.std.proofs.KnownBytes.{Appends-nil, Consumes-trans, Consumes-whole}
use Rattle.capn_make.specs.MakeRun.{IsAhead}
use Rattle.capn_make.specs.inner.SinkRun.{Feeds, Giving, IsTakenAhead, ReadsPiece, Runs, Taking, Writes}

-- `bytes` were read, `taken` is their number, and `Takes` holds for them. `a` and `b` are the reader before and after.
pub record HasTaken (Takes : Taking) (a b c d : Option (List ℕ)) (taken : ℕ) : Type 0 where
  pub bytes : List ℕ
  pub read : Consumes a b bytes
  pub size : length bytes ≡ taken
  pub takes : Takes bytes c d

none_of : (xs : List ℕ) → length xs ≡ 0 → xs ≡ []
none_of [] e = refl
none_of (x ∷ xs) e = absurd (omega arith)

only_writer : (read wrote : Bool) → read ≡ false → (read ≡ true) ⊎ (wrote ≡ true) → wrote ≡ true
only_writer read wrote fine (inl r) = absurd cc
only_writer read wrote fine (inr w) = w

abbrev stop : {F : Type 0} → F → Result (Unit {0}) F
stop fault = Err fault

abbrev done_well : {F : Type 0} → Unit {0} → Result (Unit {0}) F
done_well u = Ok u

stop_inj : {F : Type 0} (x y : F) → stop x ≡ stop y → x ≡ y
stop_inj x y e = cc

pub not_broken : {F : Type 0} (io : F) (wrote : Bool) (u : Unit {0}) → ((done_well u ≡ stop io) ↔ (wrote ≡ true))
    → wrote ≡ false
not_broken io false u h = refl
not_broken io true u h = let e = h.1 refl in absurd cc

module _ {S F : Type 0} (Takes : S → Taking) (Gives : Giving F) (io : F) (s : S) (a b c d : Option (List ℕ))
    (taken : ℕ) (h : HasTaken (Takes s) a b c d taken) (e : Option (List ℕ)) (read wrote : Bool) (buffer : List ℕ) where
  ahead_here : (f : Option (List ℕ)) (text : List ℕ) → Appends d f text → IsTakenAhead Takes h.bytes c f
  ahead_here f text written = (h.bytes, [], s, d, text, sym (append-nil h.bytes), omega arith, h.takes, written)

  broken_by : (r : Result (Unit {0}) F) → read ≡ false → ((r ≡ Err io) ↔ (wrote ≡ true))
      → (r ≡ Err io) ↔ ((read ≡ true) ⊎ (wrote ≡ true))
  broken_by r fine is = (λ e. inr (is.0 e), λ f. is.1 (only_writer read wrote fine f))

  pub run_failed : ReadsPiece b e read buffer None → Runs Takes Gives io s a e c d read wrote (Err io)
  run_failed none = record {
    bytes = h.bytes;
    read = subst (Consumes a e) (append-nil h.bytes) (Consumes-trans a b e h.bytes [] h.read none.1);
    ended = inl none.0;
    broken = (λ e. inl none.0, λ f. refl);
    heard = λ e. h.takes;
    ahead = ahead_here d [] (Appends-nil d);
  }

  module _ (count : ℕ) (given : ReadsPiece b e read buffer (Some count)) where
    abbrev piece : List ℕ
    piece = take count buffer

    read_on : Consumes a e (h.bytes ++ piece)
    read_on = Consumes-trans a b e h.bytes piece h.read given.3

    pub run_ended : (last : S) (f : Option (List ℕ)) (r : Result (Unit {0}) F) → count ≡ 0 → Gives h.bytes [] c f r
        → Writes io d f wrote r → Runs Takes Gives io last a e c f read wrote r
    run_ended last f r zero gives w = record {
      bytes = h.bytes;
      read = subst (Consumes a e) (ap (λ t. h.bytes ++ t) (none_of piece (given.2 ∙ zero)) ∙ append-nil h.bytes)
          read_on;
      ended = inr (inl (given.4 zero, gives));
      broken = broken_by r given.0 w.1;
      heard = λ e. let fine = given.0 in absurd cc;
      ahead = ahead_here f w.0.0 w.0.1;
    }

    pub some_given : (count ≡ 0 → ⊥) → piece ≢ []
    some_given some none = some (sym given.2 ∙ ap length none)

    pub run_refused : (last : S) (f : Option (List ℕ)) (fault : F)
        → Feeds (Takes last) Gives (h.bytes ++ piece) c f (Err fault) → Writes io d f wrote (stop fault)
        → Runs Takes Gives io last a e c f read wrote (Err fault)
    run_refused last f fault gives w =
        let size = given.2 in
        let within = given.1 in record {
          bytes = h.bytes ++ piece;
          read = read_on;
          ended = inr (inr gives);
          broken = broken_by (Err fault) given.0 w.1;
          heard = λ e. let fine = given.0 in absurd cc;
          ahead = (h.bytes, piece, s, d, w.0.0, refl, omega arith, h.takes, w.0.1);
        }

    pub run_too_long : (fault : F) → fault ≢ io → wrote ≡ false → 2 ^ 64 ≤ taken + count
        → ((bytes more : List ℕ) (c d : Option (List ℕ)) → Takes s bytes c d → 2 ^ 64 ≤ length (bytes ++ piece)
        → Gives (bytes ++ piece) more c d (Err fault))
        → Runs Takes Gives io s a e c d read wrote (Err fault)
    run_too_long fault other kept many gives =
        let size = given.2 in
        let was = h.size in
        let all = length-append h.bytes piece in
        run_refused s d fault (λ more. gives h.bytes more c d h.takes (omega arith))
        (([], Appends-nil d), (λ e. absurd (other (stop_inj fault io e)), λ f. absurd cc))

    pub taken_on : (next : S) (f : Option (List ℕ)) (u : Unit {0})
        → Feeds (Takes next) Gives (h.bytes ++ piece) c f (Ok u) → HasTaken (Takes next) a e c f (taken + count)
    taken_on next f u takes =
        let size = given.2 in
        let was = h.size in
        let all = length-append h.bytes piece in record {
          bytes = h.bytes ++ piece;
          read = read_on;
          size = omega arith;
          takes = takes;
        }

-- ---- what holds after a run on an input

known_whole : (a b : Option (List ℕ)) (bytes : List ℕ) (P : List ℕ → Type 0) → Consumes a b bytes
    → ((more : List ℕ) → P (bytes ++ more)) → IfSome a P
known_whole None b bytes P consumed h = tt
known_whole (Some x) None bytes P consumed h = absurd consumed
known_whole (Some x) (Some y) bytes P consumed h = subst P (sym consumed) (h y)

any_known : (a : Option (List ℕ)) (P : List ℕ → Type 0) → ((input : List ℕ) → P input) → IfSome a P
any_known None P h = tt
any_known (Some x) P h = h x

module _ {S F : Type 0} (Takes : S → Taking) (Gives : Giving F) (io : F) (last : S) (a b c d : Option (List ℕ))
    (read wrote : Bool) (r : Result (Unit {0}) F) (h : Runs Takes Gives io last a b c d read wrote r) where
  pub exactly : (P : List ℕ → Type 0) → (r ≡ Err io → (input : List ℕ) → P input)
      → ((more : List ℕ) → Gives h.bytes more c d r → P (h.bytes ++ more)) → IfSome a P
  exactly P unread so = elim h.ended [
    | inl failed ↦ any_known a P (unread (h.broken.1 (inl failed)))
    | inr (inl over) ↦
        Consumes-whole a b h.bytes P h.read over.0 (subst P (append-nil h.bytes) (so [] over.1))
    | inr (inr good) ↦ known_whole a b h.bytes P h.read (λ more. so more (good more))
  ]

  pub here : (P : Type 0) → (Takes last h.bytes c d → r ≡ Err io → P) → (Gives h.bytes [] c d r → P) → P
  here P unread so = elim h.ended [
    | inl failed ↦ unread (h.heard failed) (h.broken.1 (inl failed))
    | inr (inl over) ↦ so over.1
    | inr (inr good) ↦ so (good [])
  ]

  -- If `W` holds for all bytes that a sink takes, `W` held for the bytes before the last chunk when that chunk was
  -- read.
  pub ahead_of : (W : Taking) → ((s : S) (bytes : List ℕ) (e f : Option (List ℕ)) → Takes s bytes e f → W bytes e f)
      → IsAhead W h.bytes c d
  ahead_of W so = let p = h.ahead in (p.0, p.1, p.3, p.4, p.5, p.6, so p.2 p.0 c p.3 p.7, p.8)
