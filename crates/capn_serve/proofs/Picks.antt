-- Lemmas for `run_only`: the run of the service `Picker` is a run that picks messages.
use Rattle.std.proofs.Common.{◌≡◌, inl, inr, ℕ, ◌+◌, ◌<◌, ◌≤◌, List, [], ◌∷◌, Bool, true, false, Option}
use Rattle.std.proofs.Common.{None, Some, IfSome, Ok, Err, if◌then◌else◌, refl, ap, sym, subst, ◌∙◌}
use Rattle.capn_serve.specs.declared.fault.RunFault.{RunFault}
use Rattle.capn_serve.specs.declared.pick.Range.{Range}
use Rattle.capn_serve.specs.declared.pick.StreamForm.{StreamForm}
use Rattle.capn_serve.specs.declared.pick.StreamForm.TheVariants as forms
use Rattle.capn_serve.specs.declared.picker.Picker.{Picker}
use Rattle.capn_serve.specs.declared.position.Position.{Position}
use Rattle.capn_serve.specs.declared.service.Run.{Run}
use Rattle.capn_serve.specs.Fold.{AreParts, AreServed, Fold, IsFolded, Part, fold_until}
use Rattle.capn_serve.specs.FormRun.{AreMessages, MessagesEnd, ServesMessages, form_of}
use Rattle.capn_serve.specs.Pick.{AreAscending, IsEnough, IsTooFew, Picking, last_of, pick_fold}
use Rattle.capn_serve.specs.PickRun.{EndsAs, HasWritten, HasWrittenAll, IsPicked, IsPickedOf, IsShort, KeepsUp}
use Rattle.capn_serve.specs.PickRun.{PicksRanges, most_taken}
use Rattle.capn_serve.specs.StreamRun as streams
use Rattle.capn_serve.specs.StreamRun.{IsAhead, IsNeeded, first_run}
use Rattle.capn_serve.specs.PackedRun as packings
use Rattle.capn_serve.specs.inner.Picker.{done, refuses, serves}
use Rattle.capn_serve.proofs.PackedMore.{begins_all}
use Rattle.capn_serve.proofs.Ranges.{Follows, first_decides, follows_first, follows_next, none_left, some_left}
use Rattle.capn_serve.proofs.shared.Finishes.{Ending, stopped}
use Rattle.capn_serve.proofs.shared.Until.{ends_open, going_of, is_done, known}

ahead_as : (P Q : List ℕ → Option (List ℕ) → Option (List ℕ) → Type 0)
    → ((bytes : List ℕ) (c d : Option (List ℕ)) → P bytes c d → Q bytes c d) → (bytes : List ℕ) (c d : Option (List ℕ))
    → IsAhead P bytes c d → IsAhead Q bytes c d
ahead_as P Q means bytes c d (front, piece, mid, more, is, small, all, wrote) =
    (front, piece, mid, more, is, small, means front c mid all, wrote)

module _ (most : ℕ) (ranges : List Range) (p : Picker) (same : p.rest.now ≡ ranges) (ascending : AreAscending ranges)
  where
    abbrev pub until : Fold (Run Picker)
    until = fold_until serves refuses done most

    abbrev x : Run Picker
    x = first_run p

    -- The state of `pick_fold` with all `ranges`, at the position of the run `y`.
    abbrev view : Run Picker → Picking
    view y = record { service = ranges; at = y.at }

    abbrev IsOn : Run Picker → Type 0
    IsOn y = Follows ranges y.at.index y.service.rest.now

    starts : IsOn x
    starts = subst (Follows ranges 0) (sym same) (follows_first ranges ascending)

    goes_on : (w y : Run Picker) (q : Part) → IsOn w → until.step w q.frame q.message q.text y → IsOn y
    goes_on w y q on (served, at) =
        subst (λ (a : Position). Follows ranges a.index y.service.rest.now) (sym at)
        (subst (Follows ranges (w.at.index + 1)) (sym served.1) (follows_next ranges w.service.rest.now w.at.index on))

    on : (w y : Run Picker) (ps : List Part) → AreServed until w ps y → IsOn w → IsOn y
    on w y [] is h = subst IsOn is h
    on w y (q ∷ ps) (mid, part, step, more) h = on mid y ps more (goes_on w mid q h step)

    served : (w y : Run Picker) (ps : List Part) → AreServed until w ps y → IsOn w
        → AreServed (pick_fold most) (view w) ps (view y)
    served w y [] is h = ap view is
    served w y (q ∷ ps) (mid, part, step, more) h = (
      view mid,
      record { frame = part.frame; room = part.room; going = refl },
      (
        (
          step.0.0
              ∙ ap (λ (b : Bool). if b then q.frame else []) (first_decides ranges w.service.rest.now w.at.index h),
          refl,
        ),
        step.1,
      ),
      served mid y ps more (goes_on w mid q h step),
    )

    parts_of : (y : Run Picker) (bytes rest : List ℕ) (ps : List Part) → AreParts until x bytes ps rest y
        → AreParts (pick_fold most) (first_run ranges) bytes ps rest (view y)
    parts_of y bytes rest ps are = record { each = served x y ps are.each starts; is = are.is }

    past : (y : Run Picker) → IsOn y → until.done y ≡ true → last_of ranges ≤ y.at.index
    past y h over = none_left ranges y.service.rest.now y.at.index h over

    before : (y : Run Picker) → IsOn y → until.done y ≡ false → y.at.index < last_of ranges
    before y h going = some_left ranges y.service.rest.now y.at.index h going

    -- ---- what is picked from some bytes

    module _ (bytes text : List ℕ) (behind : Option RunFault) (ending : Ending) (y : Run Picker)
        (due : IsFolded until x bytes behind text ending y) where
      keeps : IsOn y
      keeps = on x y due.parts due.are.each starts

      enough : until.done y ≡ true → IsEnough most ranges bytes text
      enough over = (
        due.parts,
        due.rest,
        view y,
        parts_of y bytes due.rest due.parts due.are,
        past y keeps over,
        due.joined,
      )

      as_done : until.done y ≡ true → ending ≡ Ok tt
      as_done over = is_done until y due.rest behind ending over due.ends

      too_few : until.done y ≡ false → IsFolded (pick_fold most) (first_run ranges) bytes behind text ending (view y)
      too_few going = record {
        parts = due.parts;
        rest = due.rest;
        are = parts_of y bytes due.rest due.parts due.are;
        joined = due.joined;
        ends = elim (ends_open until y due.rest behind ending going due.ends) [
          | inl unframed ↦ inl unframed
          | inr (frame, more, message, r, is, framed, room, none, e) ↦ absurd none
        ];
      }

    due_stream : (bytes text : List ℕ) (is_longer : Bool) (ending : Ending) (y : Run Picker)
        → streams.IsDue until x most_taken bytes is_longer text ending y
        → IsPickedOf most ranges forms.Stream bytes is_longer text ending
    due_stream bytes text is_longer ending y due =
        elim (known (until.done y)) [
          | inl over ↦ inl (
            enough bytes text (streams.behind is_longer) ending y due over,
            as_done bytes text (streams.behind is_longer) ending y due over,
          )
          | inr going ↦ inr (
            view y,
            too_few bytes text (streams.behind is_longer) ending y due going,
            before y (keeps bytes text (streams.behind is_longer) ending y due) going,
          )
        ]

    packed_too_few : (bytes text : List ℕ) (is_longer : Bool) (ending : Ending) (y : Run Picker)
        → packings.IsDuePacked until x most_taken bytes is_longer text ending y → until.done y ≡ false
        → packings.IsDuePacked (pick_fold most) (first_run ranges) most_taken bytes is_longer text ending (view y)
    packed_too_few bytes text is_longer ending y due going = record {
      stream = due.stream;
      group = due.group;
      offset = due.offset;
      split = due.split;
      due = too_few (streams.taken_of most_taken due.stream) text _ ending y due.due going;
    }

    due_packed : (bytes text : List ℕ) (is_longer : Bool) (ending : Ending) (y : Run Picker)
        → packings.IsDuePacked until x most_taken bytes is_longer text ending y
        → IsPickedOf most ranges forms.Packed bytes is_longer text ending
    due_packed bytes text is_longer ending y due =
        let all = streams.taken_of most_taken due.stream in
        elim (known (until.done y)) [
          | inl over ↦ inl (
            due.stream,
            begins_all bytes due.group due.stream due.offset due.split,
            enough all text _ ending y due.due over,
            as_done all text _ ending y due.due over,
          )
          | inr going ↦ inr (
            view y,
            packed_too_few bytes text is_longer ending y due going,
            before y (keeps all text _ ending y due.due) going,
          )
        ]

    -- ---- what was read

    short : (bytes : List ℕ) → streams.IsShort until x most_taken bytes → IsTooFew most ranges bytes
    short bytes (parts, rest, y, are, part, going) = (
      parts,
      rest,
      view y,
      parts_of y bytes rest parts are,
      part,
      before y (on x y parts are.each starts) going,
    )

    needed_stream : (bytes : List ℕ) → IsNeeded (streams.IsShort until x most_taken) bytes
        → IsNeeded (IsShort most ranges forms.Stream) bytes
    needed_stream bytes (inl none) = inl none
    needed_stream bytes (inr (front, piece, is, small, few)) = inr (front, piece, is, small, short front few)

    needed_packed : (bytes : List ℕ) → IsNeeded (packings.IsShortPacked until x most_taken) bytes
        → IsNeeded (IsShort most ranges forms.Packed) bytes
    needed_packed bytes (inl none) = inl none
    needed_packed bytes (inr (front, piece, is, small, (stream, group, offset, split, few))) =
        inr (front, piece, is, small, (stream, group, offset, split, short stream few))

    -- ---- what was written

    written_stream : (bytes : List ℕ) (c d : Option (List ℕ))
        → streams.HasWritten until x most_taken (streams.taken_of most_taken bytes) c d
        → HasWritten most ranges forms.Stream bytes c d
    written_stream bytes c d (parts, rest, y, count, are, wrote) = (
      parts,
      rest,
      view y,
      count,
      parts_of y (streams.taken_of most_taken bytes) rest parts are,
      wrote,
    )

    written_packed : (bytes : List ℕ) (c d : Option (List ℕ))
        → packings.HasWrittenPacked until x most_taken (streams.taken_of most_taken bytes) c d
        → HasWritten most ranges forms.Packed bytes c d
    written_packed bytes c d (stream, begins, parts, rest, y, count, are, wrote) = (
      stream,
      begins,
      parts,
      rest,
      view y,
      count,
      parts_of y (streams.taken_of most_taken stream) rest parts are,
      wrote,
    )

    all_stream : (bytes : List ℕ) (c d : Option (List ℕ)) → streams.HasWrittenAll until x most_taken bytes c d
        → HasWrittenAll most ranges forms.Stream bytes c d
    all_stream bytes c d (parts, rest, y, are, part, wrote) =
        (parts, rest, view y, parts_of y bytes rest parts are, part, wrote)

    all_packed : (bytes : List ℕ) (c d : Option (List ℕ)) → packings.HasWrittenAllPacked until x most_taken bytes c d
        → HasWrittenAll most ranges forms.Packed bytes c d
    all_packed bytes c d (stream, group, offset, split, fits, parts, rest, y, are, part, wrote) =
        (stream, group, offset, split, fits, parts, rest, view y, parts_of y stream rest parts are, part, wrote)

    keeps_stream : (a b c d : Option (List ℕ)) → streams.KeepsUp until x most_taken a b c d
        → KeepsUp most ranges forms.Stream a b c d
    keeps_stream a b c d (bytes, text, ending, y, read, kept, wrote) =
        let due = going_of (until.done y) _ kept in
        (bytes, text, ending, view y, read, too_few _ text _ ending y due.1 due.0, wrote)

    keeps_packed : (a b c d : Option (List ℕ)) → packings.KeepsUpPacked until x most_taken most_taken a b c d
        → KeepsUp most ranges forms.Packed a b c d
    keeps_packed a b c d (bytes, text, ending, y, read, kept, wrote) =
        let due = going_of (until.done y) _ kept in
        (bytes, text, ending, view y, read, packed_too_few _ text _ ending y due.1 due.0, wrote)

    -- ---- how it ended

    picked_by : (form : StreamForm) (input text : List ℕ) (ending : Ending) (y : Run Picker)
        → AreMessages until x (form_of form) input text ending y → IsPicked most ranges form input text ending
    picked_by forms.Stream input text ending y are = due_stream _ text _ ending y are
    picked_by forms.Packed input text ending y are = due_packed _ text _ ending y are

    exact_by : (form : StreamForm) (a c d : Option (List ℕ)) (r : Ending) (y : Run Picker)
        → IfSome a (MessagesEnd until x (form_of form) c d r y) → IfSome a (EndsAs most ranges form c d r)
    exact_by form None c d r y is = tt
    exact_by form (Some input) c d (Ok u) y (text, are, wrote) =
        inr (inr (text, picked_by form input text (Ok tt) y are, wrote))
    exact_by form (Some input) c d (Err e) y (inl memory) = inl (ap stopped memory)
    exact_by form (Some input) c d (Err e) y (inr (inl io)) = inr (inl (ap stopped io))
    exact_by form (Some input) c d (Err e) y (inr (inr (text, z, are, wrote, leaves))) =
        inr (inr (text, picked_by form input text (stopped e) z are, wrote))

    -- ---- the whole run

    pub picks : (form : StreamForm) (a b c d : Option (List ℕ)) (reader writer : Bool) (r : Ending) (y : Run Picker)
        → ServesMessages until x (form_of form) a b c d reader writer r y
        → PicksRanges most ranges form a b c d reader writer r
    picks forms.Stream a b c d reader writer r y run = record {
      exact = exact_by forms.Stream a c d r y run.exact;
      io = run.io;
      begun = record {
        bytes = run.begun.bytes;
        read = run.begun.read;
        bounded = run.begun.bounded.0;
        ahead = ahead_as (streams.HasWrittenAll until x most_taken) (HasWrittenAll most ranges forms.Stream) all_stream
            run.begun.bytes c d run.begun.bounded.1;
        needed = needed_stream run.begun.bytes run.begun.needed;
        written = written_stream run.begun.bytes c d run.begun.written;
      };
      heard = λ h. keeps_stream a b c d (run.heard h);
      memory = run.memory;
    }
    picks forms.Packed a b c d reader writer r y run = record {
      exact = exact_by forms.Packed a c d r y run.exact;
      io = run.io;
      begun = record {
        bytes = run.begun.bytes;
        read = run.begun.read;
        bounded = run.begun.bounded.0;
        ahead = ahead_as (packings.HasWrittenAllPacked until x most_taken) (HasWrittenAll most ranges forms.Packed)
            all_packed run.begun.bytes c d run.begun.bounded.1;
        needed = needed_packed run.begun.bytes run.begun.needed;
        written = written_packed run.begun.bytes c d run.begun.written;
      };
      heard = λ h. keeps_packed a b c d (run.heard h);
      memory = run.memory;
    }
