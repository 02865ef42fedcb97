-- Ports and the table of services are equally long.
use Rattle.std.proofs.Common.{◌≡◌, ◌∙◌, ℕ, length, ap, refl, sym, Option, None, Some}
use Rattle.service_reg.specs.declared.service.Service.{Service}
use Rattle.service_reg.specs.declared.service.Service.TheVariants.{Fetch, Predict, Decoder, RegFile, Hazard, Exec, DataBus, System}
use Rattle.service_ports.specs.Ports.{Ports, input_shapes, output_widths, fetch_ports, predict_ports, decoder_ports, regfile_ports, hazard_ports, databus_ports, system_ports}
use Rattle.service_ports.specs.Registry.{RegistryValue, Offered, offered_as, single}
use Rattle.service_ports.proofs.Offers.{none_some}

-- what holds of all ports of a struct holds of an offer of them
of-each : {A : Type 0} (f : A → Ports) (g : Ports → ℕ) (n : ℕ) → ((p : A) → g (f p) ≡ n) → (x : Option (ℕ × A)) (o : Offered) → offered_as f x ≡ Some o → g o.ports ≡ n
of-each f g n each None o e = absurd (none_some None o refl e)
of-each f g n each (Some x) o e = ap (λ (q : Offered). g q.ports) (sym (same e)) ∙ each x.1
  where
    same : {a b : Offered} → Some a ≡ Some b → a ≡ b
    same h = cc

pub inputs_fill : (r : RegistryValue) (s : Service) (o : Offered) → single r s ≡ Some o → length o.ports.inputs ≡ length (input_shapes s)
inputs_fill r Fetch o e = of-each fetch_ports (λ (p : Ports). length p.inputs) _ (λ p. refl) r.fetch o e
inputs_fill r Predict o e = of-each predict_ports (λ (p : Ports). length p.inputs) _ (λ p. refl) r.predict o e
inputs_fill r Decoder o e = of-each decoder_ports (λ (p : Ports). length p.inputs) _ (λ p. refl) r.decoder o e
inputs_fill r RegFile o e = of-each regfile_ports (λ (p : Ports). length p.inputs) _ (λ p. refl) r.regfile o e
inputs_fill r Hazard o e = of-each hazard_ports (λ (p : Ports). length p.inputs) _ (λ p. refl) r.hazard o e
inputs_fill r Exec o e = absurd (none_some None o refl e)
inputs_fill r DataBus o e = of-each databus_ports (λ (p : Ports). length p.inputs) _ (λ p. refl) r.databus o e
inputs_fill r System o e = of-each system_ports (λ (p : Ports). length p.inputs) _ (λ p. refl) r.system o e

pub outputs_fill : (r : RegistryValue) (s : Service) (o : Offered) → single r s ≡ Some o → length o.ports.outputs ≡ length (output_widths s)
outputs_fill r Fetch o e = of-each fetch_ports (λ (p : Ports). length p.outputs) _ (λ p. refl) r.fetch o e
outputs_fill r Predict o e = of-each predict_ports (λ (p : Ports). length p.outputs) _ (λ p. refl) r.predict o e
outputs_fill r Decoder o e = of-each decoder_ports (λ (p : Ports). length p.outputs) _ (λ p. refl) r.decoder o e
outputs_fill r RegFile o e = of-each regfile_ports (λ (p : Ports). length p.outputs) _ (λ p. refl) r.regfile o e
outputs_fill r Hazard o e = of-each hazard_ports (λ (p : Ports). length p.outputs) _ (λ p. refl) r.hazard o e
outputs_fill r Exec o e = absurd (none_some None o refl e)
outputs_fill r DataBus o e = of-each databus_ports (λ (p : Ports). length p.outputs) _ (λ p. refl) r.databus o e
outputs_fill r System o e = of-each system_ports (λ (p : Ports). length p.outputs) _ (λ p. refl) r.system o e
