use Rattle.lst_core.proofs.Standing.{claim_stands, draft_stands, draw_begun, install_stands, post_stands, install_held, post_held}
use Rattle.lst_core.proofs.allowed.stands.Goals as goal

pub is_judged-requires-clause-begin : goal.is_judged-requires-clause-begin
is_judged-requires-clause-begin c = draw_begun c.args.layout.now.limits c.args.words.now c.args.now.now c.args.event c.requires.told c.requires.within c.requires.allowed c.in-DrawTail.session c.in-DrawTail.range c.in-DrawTail.is

pub returns-in-Claim : goal.returns-in-Claim
returns-in-Claim c = claim_stands c.args.layout.now.limits c.args.words.now c.args.now.now c.args.event c.in-Claim.session c.in-Claim.position c.in-Claim.is c.reaches.result c.reaches.ensures

pub returns-else-place-ne0 : goal.returns-else-place-ne0
returns-else-place-ne0 c = draft_stands c.args.layout.now.limits c.args.words.now c.args.now.now c.args.event c.requires.within c.requires.allowed c.in-StoreCell.session c.in-StoreCell.place c.in-StoreCell.value c.in-StoreCell.is c.if-place-ne0.false c.is_drafted.result c.is_drafted.ensures

pub is_installable-requires : goal.is_installable-requires
is_installable-requires c = record { told = install_held c.args.layout.now.limits c.args.words.now c.args.now.now c.args.event c.requires.told c.requires.allowed c.requires.within c.in-Install.session c.in-Install.is }

pub returns-in-Install : goal.returns-in-Install
returns-in-Install c = install_stands c.args.layout.now.limits c.args.words.now c.args.now.now c.args.event c.in-Install.session c.in-Install.is c.is_installable.result c.is_installable.ensures

pub is_postable-requires-clause-told : goal.is_postable-requires-clause-told
is_postable-requires-clause-told c = post_held c.args.layout.now.limits c.args.words.now c.args.now.now c.args.event c.requires.told c.requires.allowed c.requires.within c.in-Post.session c.in-Post.column c.in-Post.position c.in-Post.is

pub returns-in-Post : goal.returns-in-Post
returns-in-Post c = post_stands c.args.layout.now.limits c.args.words.now c.args.now.now c.args.event c.in-Post.session c.in-Post.column c.in-Post.position c.in-Post.is c.is_postable.result c.is_postable.ensures
