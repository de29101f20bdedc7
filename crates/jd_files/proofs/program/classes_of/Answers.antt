use Rattle.std.proofs.Common.{◌≤◌, map, length, arith}
use Rattle.std.proofs.lemmas.List.{length-map}
use Rattle.std.proofs.lemmas.List.Elements.{All-map}
use Rattle.jd_syntax.specs.JavaTrees.{unit_view}
use Rattle.jd_files.specs.Files.{file_limit}
use Rattle.jd_files.proofs.ClassRefusals.{refuses_classes}
use Rattle.jd_files.proofs.Sizes.{AreFewParts, few_parts}
use Rattle.jd_files.proofs.program.classes_of.Goals as goal

pub build-requires-clause-files : goal.build-requires-clause-files
build-requires-clause-files c =
    let parts : AreFewParts (map unit_view c.in_ok-units.units.items) =
    few_parts c.files_are_small.ensures.tokens c.files_are_small.ensures.trees c.files_are_small.ensures.classes c.files_are_small.ensures.places c.files_are_small.ensures.members
    (map (λ f. f.items) c.args.files.now) (map unit_view c.in_ok-units.units.items) c.in_ok-units.ensures.trees (All-map (λ b. length b ≤ file_limit) (λ f. f.items) c.args.files.now c.requires.within) (omega (arith, c.requires.few, length-map c.args.files.now (λ f. f.items))) in
    omega (arith, parts.files, length-map c.in_ok-units.units.items unit_view)

pub build-requires-clause-classes : goal.build-requires-clause-classes
build-requires-clause-classes c =
    (few_parts c.files_are_small.ensures.tokens c.files_are_small.ensures.trees c.files_are_small.ensures.classes c.files_are_small.ensures.places c.files_are_small.ensures.members
    (map (λ f. f.items) c.args.files.now) (map unit_view c.in_ok-units.units.items) c.in_ok-units.ensures.trees (All-map (λ b. length b ≤ file_limit) (λ f. f.items) c.args.files.now c.requires.within) (omega (arith, c.requires.few, length-map c.args.files.now (λ f. f.items)))).classes

pub build-requires-clause-places : goal.build-requires-clause-places
build-requires-clause-places c =
    (few_parts c.files_are_small.ensures.tokens c.files_are_small.ensures.trees c.files_are_small.ensures.classes c.files_are_small.ensures.places c.files_are_small.ensures.members
    (map (λ f. f.items) c.args.files.now) (map unit_view c.in_ok-units.units.items) c.in_ok-units.ensures.trees (All-map (λ b. length b ≤ file_limit) (λ f. f.items) c.args.files.now c.requires.within) (omega (arith, c.requires.few, length-map c.args.files.now (λ f. f.items)))).places

pub build-requires-clause-members : goal.build-requires-clause-members
build-requires-clause-members c =
    (few_parts c.files_are_small.ensures.tokens c.files_are_small.ensures.trees c.files_are_small.ensures.classes c.files_are_small.ensures.places c.files_are_small.ensures.members
    (map (λ f. f.items) c.args.files.now) (map unit_view c.in_ok-units.units.items) c.in_ok-units.ensures.trees (All-map (λ b. length b ≤ file_limit) (λ f. f.items) c.args.files.now c.requires.within) (omega (arith, c.requires.few, length-map c.args.files.now (λ f. f.items)))).members

pub returns-in-Err-clause-refused : goal.returns-in-Err-clause-refused
returns-in-Err-clause-refused c = refuses_classes (map (λ f. f.items) c.args.files.now) (map unit_view c.in_ok-units.units.items) c.in-Err.refusal c.in_ok-units.ensures.trees c.in-Err.ensures.refused
