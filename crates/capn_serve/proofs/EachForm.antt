-- Lemmas for `serve_form_with`: for any fold, the loop of each form serves the messages of an input in that form.
use Rattle.std.proofs.Common.{inl, inr, ℕ, List, [], Option, Some, None, IfSome, Bool, Result, Ok, Err, IfErr, refl}
use Rattle.std.specs.Prelude.{⊤}
use Rattle.capn_canon.specs.declared.form.Form.TheVariants as forms
use Rattle.capn_serve.specs.declared.fault.RunFault.{RunFault}
use Rattle.capn_serve.specs.Fold.{Fold}
use Rattle.capn_serve.specs.FormRun.{MessagesEnd, ServesMessages, most_stream}
use Rattle.capn_serve.specs.StreamRun as streams
use Rattle.capn_serve.specs.PackedRun as packings
use Rattle.capn_serve.specs.BareRun as bares

abbrev Served : Type 0
Served = Result (Unit {0}) RunFault

pub came_bare : (a : Option (List ℕ)) (r : Served) → IfSome a (λ input. IfErr r (λ e. ⊤))
came_bare None r = tt
came_bare (Some input) (Ok u) = tt
came_bare (Some input) (Err e) = tt

module _ {X : Type 0} (f : Fold X) (x : X) where
  -- ---- the messages of a stream

  streamed_exact : (a c d : Option (List ℕ)) (r : Served) (y : X)
      → IfSome a (streams.EndsAs f x most_stream c d r y) → IfSome a (MessagesEnd f x forms.Stream c d r y)
  streamed_exact None c d r y is = tt
  streamed_exact (Some input) c d (Ok u) y is = is
  streamed_exact (Some input) c d (Err e) y is = is

  pub serves_stream : (a b c d : Option (List ℕ)) (reader writer : Bool) (r : Served) (y : X)
      → streams.Runs f x most_stream a b c d reader writer r y
      → ServesMessages f x forms.Stream a b c d reader writer r y
  serves_stream a b c d reader writer r y run = record {
    exact = streamed_exact a c d r y run.exact;
    io = run.io;
    begun = record {
      bytes = run.begun.bytes;
      read = run.begun.read;
      bounded = (run.begun.bounded, run.begun.lazy);
      needed = run.begun.needed;
      written = run.begun.written;
    };
    heard = run.heard;
    memory = run.memory;
  }

  -- ---- the messages of a packed stream

  packed_exact : (a c d : Option (List ℕ)) (r : Served) (y : X)
      → IfSome a (packings.EndsPackedAs f x most_stream most_stream c d r y)
      → IfSome a (MessagesEnd f x forms.Packed c d r y)
  packed_exact None c d r y is = tt
  packed_exact (Some input) c d (Ok u) y is = is
  packed_exact (Some input) c d (Err e) y is = is

  pub serves_packed : (a b c d : Option (List ℕ)) (reader writer : Bool) (r : Served) (y : X)
      → packings.RunsPacked f x most_stream most_stream a b c d reader writer r y
      → ServesMessages f x forms.Packed a b c d reader writer r y
  serves_packed a b c d reader writer r y run = record {
    exact = packed_exact a c d r y run.exact;
    io = run.io;
    begun = record {
      bytes = run.begun.bytes;
      read = run.begun.read;
      bounded = (run.begun.bounded, run.begun.lazy);
      needed = run.begun.needed;
      written = run.begun.written;
    };
    heard = run.heard;
    memory = run.memory;
  }

  -- ---- the message of a bare input

  bare_exact : (a c d : Option (List ℕ)) (r : Served) (y : X)
      → IfSome a (bares.EndsAs f x c d r y) → IfSome a (MessagesEnd f x forms.Bare c d r y)
  bare_exact None c d r y is = tt
  bare_exact (Some input) c d (Ok u) y is = is
  bare_exact (Some input) c d (Err e) y (inl memory) = inl memory
  bare_exact (Some input) c d (Err e) y (inr (inl io)) = inr (inl io)
  bare_exact (Some input) c d (Err e) y (inr (inr (ends, wrote, leaves))) =
      inr (inr ([], x, (ends, refl, refl), wrote, leaves))

  pub serves_bare : (a b c d : Option (List ℕ)) (reader writer : Bool) (r : Served) (y : X)
      → bares.RunsBare f x a b c d reader writer r y → ServesMessages f x forms.Bare a b c d reader writer r y
  serves_bare a b c d reader writer r y run = record {
    exact = bare_exact a c d r y run.exact;
    io = run.io;
    begun = record {
      bytes = run.begun.bytes;
      read = run.begun.read;
      bounded = run.begun.bounded;
      needed = run.begun.needed;
      written = run.begun.written;
    };
    heard = run.heard;
    memory = run.memory;
  }
