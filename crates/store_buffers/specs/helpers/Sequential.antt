-- Sequential consistency obeys the laws.
use Rattle.std.proofs.Common.{refl, sym, ap, ◌∙◌}
use Rattle.std.proofs.lemmas.Bool.{false≢true}
use Rattle.store_buffers.specs.Buffers.{no_buffer, newest}
use Rattle.list_laws.specs.Lists.{is_nil}
use Rattle.memory_models.specs.declared.model.Model.TheVariants.{Sc}
use Rattle.store_buffers.specs.Pending.{stores, binds_all}
use Rattle.store_buffers.specs.Laws.{Laws}
use Rattle.store_buffers.specs.helpers.Lists.{store_there}

pub sc_laws : Laws no_buffer Sc binds_all
sc_laws = record {
  form_law = refl;
  same_cell = λ _. refl;
  barred = refl;
  empty_law = λ b ps s. sym (ap (λ es. is_nil es) (s.issued refl));
  forward_stands = λ b ps c s. sym (ap (λ es. newest es c) (s.issued refl));
  may_drain_stands = λ b ps form s may. absurd (false≢true may);
  drain_stands =
      λ b ps form older e newer s d. absurd
      (store_there older e newer (sym (ap stores d.there) ∙ s.issued refl));
  unbuffered = λ _ b form. refl;
}
