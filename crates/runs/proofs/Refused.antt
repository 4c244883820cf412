-- A refused call, wherever it stands, changes nothing: so what calls lead to, the accepted ones among them lead to alone.
use mathlib.Core.Path.{◌≡◌, refl, sym, ap, ap₂, ◌∙◌, subst}
use mathlib.Core.List.{List, [], ◌∷◌}
use Prim.Native.Nat.{ℕ, ◌<◌}
use native.Mathlib.Decide.{dec_lt}
use native.Mathlib.Omega.{arith}
use lib.ListN.{length}
use Rattle.index.specs.declared.Job.{Job}
use Rattle.index.specs.Answers.{number_of}
use Rattle.index.specs.Numbers.{Refuses}
use Rattle.index.proofs.NumberLaws.{scan_refused, settle_refused, level_refused, close_refused}
use Rattle.runs.specs.Runs.{Call, scan, settle, level, close, Held, answer, act, run, Accepts}

held : Job → List ℕ → Held
held j words = record { job = j; words = words }

pub refused_same : (text : List ℕ) (c : Call) (h : Held) → Refuses (answer text c h) → act text c h ≡ h
unfolding answer act held
refused_same text (scan k x) h r = let s = scan_refused h.job text h.words k x r in ap₂ held s.0 s.1
refused_same text (settle k) h r = let s = settle_refused h.job text h.words k r in ap₂ held s.0 s.1
refused_same text (level k) h r = let s = level_refused h.job text h.words k r in ap₂ held s.0 s.1
refused_same text close h r = let s = close_refused h.job (length text) h.words r in ap₂ held s.0 s.1

pub only_accepted : (text : List ℕ) (cs : List Call) (h : Held) → (ds : List Call) × (Accepts text ds h × (run text ds h ≡ run text cs h))
unfolding run
only_accepted text [] h = ([], (Accepts.none, refl))
only_accepted text (c ∷ cs) h = go (dec_lt 0 (number_of (answer text c h))) (dec_lt 12 (number_of (answer text c h))) (only_accepted text cs (act text c h))
  where
    go : Dec (0 < number_of (answer text c h)) → Dec (12 < number_of (answer text c h)) → (ds : List Call) × (Accepts text ds (act text c h) × (run text ds (act text c h) ≡ run text cs (act text c h)))
        → (ds : List Call) × (Accepts text ds h × (run text ds h ≡ run text cs (act text c h)))
    go (yes p) (no q) (ds, (a, e)) =
        let same = refused_same text c h (omega arith, omega (arith, q)) in
        (ds, (subst (Accepts text ds) same a, ap (run text ds) (sym same) ∙ e))
    go (no p) q (ds, (a, e)) = (c ∷ ds, (Accepts.more {c = c} {h = h} (λ r. p (omega (arith, r.0))) a, e))
    go (yes p) (yes q) (ds, (a, e)) = (c ∷ ds, (Accepts.more {c = c} {h = h} (λ r. omega (arith, q, r.1)) a, e))
