-- The record of an edge is read back from its line.
use Rattle.std.proofs.Common.{◌≡◌, ℕ, ◌+◌, ◌*◌, ◌<◌, ◌≤◌, ◌^◌, List, [], ◌∷◌, All, length, Ok, None, refl, sym, arith, length-append}
use Rattle.csv.specs.Writing.{default_writer, row_text}
use Rattle.decimal_text.specs.Number.{decimal}
use Rattle.decimal_text.proofs.Laws.{length-decimal, unsigned_within-decimal}
use Rattle.polyline_geometry.specs.Plane.{InRange}
use Rattle.road_network.specs.Net.{Edge, Net, node_name}
use Rattle.road_network.specs.NetworkFile.{Row, row_of}
use Rattle.road_network.proofs.RowsRead.{row-read}
use Rattle.listed_files.specs.NetworkText.{edge_text, line_text}
use Rattle.listed_files.proofs.Points.{line-read, line-short, plain-line, plain-number}
use Rattle.listed_files.proofs.Records.{four-plain}

-- what the text of an edge needs to be read back
pub record Fits (n : Net) (e : Edge) : Type 0 where
  pub name : e.name < 2 ^ 32
  pub start : node_name n e.«from» < 2 ^ 64
  pub stop : node_name n e.to < 2 ^ 64
  pub some : 1 ≤ length e.line
  pub within : All InRange e.line

abbrev pub row_for : Net → Edge → Row
row_for n e = record { name = e.name; «from» = node_name n e.«from»; to = node_name n e.to; line = e.line }

abbrev pub fields_for : Net → Edge → List (List ℕ)
fields_for n e = decimal e.name ∷ decimal (node_name n e.«from») ∷ decimal (node_name n e.to) ∷ line_text e.line ∷ []

pub row-text : (n : Net) (e : Edge) → Fits n e → row_text default_writer (fields_for n e) ≡ edge_text n e
row-text n e fits =
    let name = fits.name in
    four-plain (decimal e.name) (decimal (node_name n e.«from»)) (decimal (node_name n e.to)) (line_text e.line)
    (plain-number e.name (omega (arith, name))) (plain-number (node_name n e.«from») fits.start) (plain-number (node_name n e.to) fits.stop) (plain-line e.line fits.within)

pub row-is : (rec : ℕ) (n : Net) (e : Edge) → Fits n e → row_of rec (fields_for n e) ≡ Ok (row_for n e)
row-is rec n e fits =
    let name = fits.name in
    let start = fits.start in
    let stop = fits.stop in
    row-read rec (decimal e.name) (decimal (node_name n e.«from»)) (decimal (node_name n e.to)) (line_text e.line) (Ok e.name) (Ok (node_name n e.«from»)) (Ok (node_name n e.to)) None e.line (record {
      name = sym (unsigned_within-decimal 4_294_967_295 e.name (omega (arith, name)) (omega arith));
      start = sym (unsigned_within-decimal 18_446_744_073_709_551_615 (node_name n e.«from») (omega (arith, start)) (omega arith));
      stop = sym (unsigned_within-decimal 18_446_744_073_709_551_615 (node_name n e.to) (omega (arith, stop)) (omega arith));
      points = line-read e.line fits.some fits.within;
    }) refl

pub edge-length : (n : Net) (e : Edge) → Fits n e → (1 ≤ length (edge_text n e)) × (length (edge_text n e) ≤ 64 + 44 * length e.line)
edge-length n e fits =
    let name = fits.name in
    let a = (length-decimal e.name (omega (arith, name))).1 in
    let b = (length-decimal (node_name n e.«from») fits.start).1 in
    let c = (length-decimal (node_name n e.to) fits.stop).1 in
    let d = line-short e.line fits.within in
    let all : length (edge_text n e) ≡ length (decimal e.name) + 1 + length (decimal (node_name n e.«from»)) + 1 + length (decimal (node_name n e.to)) + 1 + length (line_text e.line) + 1 = simp length-append in
    (omega (arith, all), omega (arith, all, a, b, c, d))
