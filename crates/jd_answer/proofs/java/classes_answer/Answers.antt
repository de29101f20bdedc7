use Rattle.std.proofs.Common.{ap, codes, refl}
use Rattle.std.specs.Prelude.{option_map}
use Rattle.jd_jclasses.specs.Refusals as classes
use Rattle.jd_files.specs.Refusals.{OfClasses, class_refusal_of}
use Rattle.jd_answer.specs.FileAnswers.{of_many_classes, of_many_methods}
use Rattle.jd_answer.specs.Words.{word_texts}
use Rattle.jd_answer.proofs.FileAnswers.{places_told}
use Rattle.jd_answer.proofs.java.classes_answer.Goals as goal

pub returns-in-DuplicateClass : goal.returns-in-DuplicateClass
returns-in-DuplicateClass c =
    places_told (word_texts c.args.names.now) (option_map OfClasses (class_refusal_of c.args.refusal)) (classes.DuplicateClass c.in-DuplicateClass.file c.in-DuplicateClass.at) (codes "DuplicateClass") c.in-DuplicateClass.file c.in-DuplicateClass.at _
    (ap (λ e. option_map OfClasses (class_refusal_of e)) c.in-DuplicateClass.is) refl c.placed.ensures

pub returns-in-UnknownSuper : goal.returns-in-UnknownSuper
returns-in-UnknownSuper c =
    places_told (word_texts c.args.names.now) (option_map OfClasses (class_refusal_of c.args.refusal)) (classes.UnknownSuper c.in-UnknownSuper.file c.in-UnknownSuper.at) (codes "UnknownSuper") c.in-UnknownSuper.file c.in-UnknownSuper.at _
    (ap (λ e. option_map OfClasses (class_refusal_of e)) c.in-UnknownSuper.is) refl c.placed-in-UnknownSuper.ensures

pub returns-in-CyclicExtends : goal.returns-in-CyclicExtends
returns-in-CyclicExtends c =
    places_told (word_texts c.args.names.now) (option_map OfClasses (class_refusal_of c.args.refusal)) (classes.CyclicExtends c.in-CyclicExtends.file c.in-CyclicExtends.at) (codes "CyclicExtends") c.in-CyclicExtends.file c.in-CyclicExtends.at _
    (ap (λ e. option_map OfClasses (class_refusal_of e)) c.in-CyclicExtends.is) refl c.placed-in-CyclicExtends.ensures

pub returns-in-DuplicateMember : goal.returns-in-DuplicateMember
returns-in-DuplicateMember c =
    places_told (word_texts c.args.names.now) (option_map OfClasses (class_refusal_of c.args.refusal)) (classes.DuplicateMember c.in-DuplicateMember.file c.in-DuplicateMember.at) (codes "DuplicateMember") c.in-DuplicateMember.file c.in-DuplicateMember.at _
    (ap (λ e. option_map OfClasses (class_refusal_of e)) c.in-DuplicateMember.is) refl c.placed-in-DuplicateMember.ensures

pub returns-in-Hiding : goal.returns-in-Hiding
returns-in-Hiding c =
    places_told (word_texts c.args.names.now) (option_map OfClasses (class_refusal_of c.args.refusal)) (classes.Hiding c.in-Hiding.file c.in-Hiding.at) (codes "Hiding") c.in-Hiding.file c.in-Hiding.at _
    (ap (λ e. option_map OfClasses (class_refusal_of e)) c.in-Hiding.is) refl c.placed-in-Hiding.ensures

pub returns-in-Overload : goal.returns-in-Overload
returns-in-Overload c =
    places_told (word_texts c.args.names.now) (option_map OfClasses (class_refusal_of c.args.refusal)) (classes.Overload c.in-Overload.file c.in-Overload.at) (codes "Overload") c.in-Overload.file c.in-Overload.at _
    (ap (λ e. option_map OfClasses (class_refusal_of e)) c.in-Overload.is) refl c.placed-in-Overload.ensures

pub returns-in-BadOverride : goal.returns-in-BadOverride
returns-in-BadOverride c =
    places_told (word_texts c.args.names.now) (option_map OfClasses (class_refusal_of c.args.refusal)) (classes.BadOverride c.in-BadOverride.file c.in-BadOverride.at) (codes "BadOverride") c.in-BadOverride.file c.in-BadOverride.at _
    (ap (λ e. option_map OfClasses (class_refusal_of e)) c.in-BadOverride.is) refl c.placed-in-BadOverride.ensures

pub returns-in_ok-too_many_classes-in-TooManyClasses : goal.returns-in_ok-too_many_classes-in-TooManyClasses
returns-in_ok-too_many_classes-in-TooManyClasses c =
    record { refusal = OfClasses classes.ManyClasses; is = ap (λ e. option_map OfClasses (class_refusal_of e)) c.in-TooManyClasses.is; tells = rw c.in_ok-too_many_classes-in-TooManyClasses.ensures of_many_classes }

pub returns-in_ok-too_many_methods-in-TooManyMethods : goal.returns-in_ok-too_many_methods-in-TooManyMethods
returns-in_ok-too_many_methods-in-TooManyMethods c =
    record { refusal = OfClasses classes.ManyMethods; is = ap (λ e. option_map OfClasses (class_refusal_of e)) c.in-TooManyMethods.is; tells = rw c.in_ok-too_many_methods-in-TooManyMethods.ensures of_many_methods }
