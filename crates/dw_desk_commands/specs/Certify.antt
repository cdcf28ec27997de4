-- The effect of `certify` on a problem.
use Rattle.std.specs.Prelude.{◌≡◌, ℕ, Bool, List, []}
use Rattle.dw_board.specs.Geometry.{Geometry}
use Rattle.dw_board.specs.Placement.{Placement}
use Rattle.dw_certificate.specs.Certificate.{Row, IsCertificate, claims}
use Rattle.dw_certificate.specs.CertificateText.{certificate_text}
use Rattle.dw_desk_commands.specs.ProblemText.{IsDoneWith}
use Rattle.dw_commands.specs.declared.ending.Ending.{Ending}
use Rattle.dw_commands.specs.declared.ending.Ending.TheVariants.{Done, TooManyPositions, Failed}
use Rattle.dw_notation.specs.Problems.{Numbered}
use Rattle.dw_report.specs.Report.{first_line}

-- the text of a certificate that there is a win within n moves, or none
abbrev pub IsCertificateText : Geometry → (n : ℕ) → Placement → List ℕ → Type 0
IsCertificateText g n p text =
    (win : Bool) × (rows : List Row) × IsCertificate g p n win rows
    × (text ≡ certificate_text g p n win (claims win rows))

-- a certificate is written; or nothing, if the memo could not hold all that it needs, or memory was refused
abbrev pub Certifies : {T : Type 0} → Geometry → (n : ℕ) → Placement → Ending T → List ℕ → Type 0
Certifies g n p Done text = IsCertificateText g n p text
Certifies g n p TooManyPositions text = text ≡ []
Certifies g n p (Failed fault) text = text ≡ []
Certifies g n p other text = ⊥

-- the effect of `certify` on a problem
abbrev pub IsCertifyOf : {T : Type 0} → Geometry → (n : ℕ) → Numbered → Ending T → List ℕ → Type 0
IsCertifyOf g n problem ending text = IsDoneWith (Certifies g n) (first_line g problem) problem.found ending text
