-- The answer and the buffers at each return: a limit passed, work too short, out too short, a text.
use Rattle.std.specs.Prelude.{Ok, Err}
use mathlib.Core.Path.{◌≡◌, refl, ap, ◌∙◌}
use mathlib.Core.Bool.{true}
use mathlib.Core.List.{◌++◌}
use Prim.Native.Nat.{ℕ, ◌-◌, ◌≤◌, ◌<◌}
use native.Mathlib.Omega.{arith}
use lib.ListN.{length, take, replicate, length-take}
use borrow.Author.Tests.{lt-ltb, le-ltb}
use Rattle.common.specs.Bytes.{Bytes, padded}
use Rattle.text.specs.Text.{is_space, rstrip}
use Rattle.text.proofs.TrimLaws.{rstrip_length}
use Rattle.writer.specs.Out.{Out, strip_by}
use Rattle.writer.specs.Writing.{Held}
use Rattle.writer.specs.declared.Writer.{Writer}
use Rattle.writer.proofs.HeldLaws.{trim_does}
use Rattle.html2text.specs.Extract.{Run, going}
use Rattle.html2text.specs.Serialize.{State}
use Rattle.html2text.specs.declared.ExtractError.TheVariants.{WorkTooShort, OutTooShort}
use Rattle.writing.specs.Passing.{limit, stopped}
use Rattle.writing.specs.declared.LimitError.{LimitError}
use Rattle.writing.specs.declared.LimitError.TheVariants.{ListLevels, OpenRows}
use Rattle.extract.specs.Concluding.{Concludes}

-- the text without the blanks at its end, and zeros behind it
pub text_padded : {under buf : Bytes} {w : Writer} {o : Out} → Held true under w buf o → take w.kept buf ++ replicate (length buf - w.kept) 0 ≡ padded (rstrip o.text) (length under)
unfolding strip_by
text_padded {under} {buf} {w} {o} h =
    let t = ((trim_does true w buf).run under o h).text refl in
    rw (h.kept, t, h.long)

-- what is kept of a text lies in the buffer
pub kept_inside : {under buf : Bytes} {w : Writer} {o : Out} → Held true under w buf o → w.kept ≤ length buf
kept_inside {under} {buf} {w} {o} h =
    let n = length o.text in
    omega (arith, h.kept, rstrip_length is_space o.text, ap length (h.text refl), length-take n buf)

-- ---- at each return

module _ (need passes : ℕ) (out work : Bytes) where
  pub concludes_limit : {R : Run} (x : LimitError) → R ≡ stopped x → Concludes need passes R out work (Err (limit x)) out work
  concludes_limit (ListLevels line) e = rw e (record { answer = refl; out_is = refl; work_is = refl })
  concludes_limit (OpenRows line) e = rw e (record { answer = refl; out_is = refl; work_is = refl })

  module _ {R : Run} {S : State} (e : R ≡ going S) where
    pub concludes_work : length work < need → Concludes need passes R out work (Err (WorkTooShort need)) out work
    concludes_work h =
        let q = lt-ltb (length work) need h in
        rw e (record { answer = rw q; out_is = rw q; work_is = rw q })

    module _ (h : need ≤ length work) {peak : ℕ} (longest : peak ≡ S.out.peak) {work' : Bytes} (zeros : work' ≡ take 0 work ++ replicate (length work - 0) 0) where
      pub concludes_out : length out < peak → Concludes need passes R out work (Err (OutTooShort peak)) out work'
      concludes_out short =
          let q = le-ltb (length work) need h in
          let p = lt-ltb (length out) S.out.peak (omega (arith, short, longest)) in
          rw (e, longest, zeros) (record { answer = rw (q, p); out_is = rw (q, p); work_is = rw q })

      pub concludes_text : {w : Writer} {written out' : Bytes} → peak ≤ length out → Held true out w written S.out → out' ≡ take w.kept written ++ replicate (length written - w.kept) 0
          → Concludes need passes R out work (Ok (record { visits = passes; len = w.kept })) out' work'
      concludes_text {w} fits t text_is =
          let q = le-ltb (length work) need h in
          let p = le-ltb (length out) S.out.peak (omega (arith, fits, longest)) in
          rw (e, t.kept, text_is ∙ text_padded t, zeros) (record { answer = rw (q, p); out_is = rw (q, p); work_is = rw q })
