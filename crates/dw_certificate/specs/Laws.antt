-- A law of certificates.
use Rattle.std.specs.Prelude.{ℕ, Bool, List, ◌↔◌, IsTrue}
use Rattle.dw_board.specs.Geometry.{Geometry}
use Rattle.dw_board.specs.Placement.{Placement}
use Rattle.dw_solve.specs.Wins.{Win}
use Rattle.dw_certificate.specs.Certificate.{Row, IsCertificate}

-- a certificate states a fact: there is a win, or there is none
abbrev pub CertificatesAreRight : Type 0
CertificatesAreRight = (g : Geometry) (p : Placement) (n : ℕ) (win : Bool) (rows : List Row)
    → IsCertificate g p n win rows → IsTrue win ↔ Win g p n
